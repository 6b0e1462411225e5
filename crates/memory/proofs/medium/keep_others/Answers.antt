use Rattle.std.proofs.Common.{not, sym, ◌∙◌, arith}
use Rattle.std.proofs.lemmas.List.Filters.{FiltersInPlace, FiltersInPlace-all, FiltersInPlace-more_no, FiltersInPlace-more_set}
use Rattle.store.specs.Durable.{in_partition}
use Rattle.memory.proofs.medium.keep_others.Goals.{then-is_outside, else-is_outside}
use Rattle.memory.proofs.medium.keep_others.Goals as goal

pub loop-i-preserved : goal.loop-i-preserved
loop-i-preserved c =
    elim c.if-is_outside.branch [
      | then-is_outside w ↦ rw (w.files-is, w.others-is) (FiltersInPlace-more_set c.loop-i.invariant (omega arith) (sym c.is_outside.ensures ∙ w.if-is_outside.true) c.index-files-i.is)
      | else-is_outside w ↦ rw (w.files-is, w.others-is) (FiltersInPlace-more_no c.loop-i.invariant (omega arith) (sym c.is_outside.ensures ∙ w.if-is_outside.false) c.index-files-i.is)
    ]

pub returns : goal.returns
returns c =
    let k : FiltersInPlace (λ f. not (in_partition c.args.partition.now f)) c.args.files.now c.loop-i.files c.loop-i.others c.loop-i.i = c.loop-i.invariant in
    record { few = omega arith; front = FiltersInPlace-all k (omega arith) }
