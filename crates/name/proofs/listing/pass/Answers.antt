use Rattle.std.proofs.Common.{sym, ◌∙◌, arith, rules}
use Rattle.name.proofs.Passes.{turn-takes, turn-passes, pass-done}
use Rattle.name.proofs.listing.pass.Goals.{then-is_before, else-is_before}
use Rattle.name.proofs.listing.pass.Goals as goal

pub loop-here-preserved : goal.loop-here-preserved
loop-here-preserved c =
    elim c.if-is_before.branch [
      | then-is_before w ↦ turn-takes c.loop-here.here-items _ c.loop-here.here-index (omega arith) c.here-item.result c.loop-here.last _ c.here-item.is
          (sym c.is_before.ensures ∙ w.if-is_before.true) (w.last-is ∙ w.swap.ensures.y_after) (search (rules, w.here-items-is, w.swap.ensures.x_after)) ∙ c.loop-here.invariant
      | else-is_before w ↦ turn-passes c.loop-here.here-items _ c.loop-here.here-index (omega arith) c.here-item.result c.loop-here.last _ c.here-item.is
          (sym c.is_before.ensures ∙ w.if-is_before.false) w.last-is w.here-items-is ∙ c.loop-here.invariant
    ]

pub returns : goal.returns
returns c = pass-done c.loop-here.here-items c.loop-here.here-index c.loop-here.last (omega arith) ∙ c.loop-here.invariant
