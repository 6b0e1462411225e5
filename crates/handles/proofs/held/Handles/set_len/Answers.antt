use Rattle.std.proofs.Common.{◌+◌, sym, ◌∙◌, arith}
use Rattle.std.proofs.lemmas.Grind.{common_steps}
use Rattle.content.specs.Bytes.{cut}
use Rattle.store.specs.Meaning.{with_live}
use Rattle.store.specs.Live.{numbered}
use Rattle.store.proofs.Finds.{position_some, amended_none}
use Rattle.store.proofs.Rows.{row-there, row-changed}
use Rattle.handles.proofs.held.Handles.set_len.Goals as goal

pub returns-in-Some : goal.returns-in-Some
returns-in-Some c =
    let t = c.self.inside.held in
    let at = rw (← c.self.view_is) at (position_some (numbered c.args.number) c.args.self.now.handles c.in-Some.i (sym c.in-Some.is ∙ c.find.ensures)) in
    let it = at.it c.index-held-i.result in
    let there = row-there t.rows t.count c.in-Some.i c.index-held-i.result (numbered c.args.number) at in
    let rows = row-changed t.rows t.count c.in-Some.i c.index-held-i.result (numbered c.args.number) at (λ h. with_live h (cut (h.header + c.args.len) h.live)) c.resize-fits.new.self in
    grind (arith, common_steps)

pub returns-in_default : goal.returns-in_default
returns-in_default c = grind (arith, common_steps, amended_none)
