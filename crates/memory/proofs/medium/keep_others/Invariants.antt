use Rattle.std.proofs.Common.{not}
use Rattle.std.proofs.lemmas.List.Filters.{FiltersInPlace}
use Rattle.store.specs.Durable.{in_partition}
use Rattle.memory.proofs.medium.keep_others.Given as goal

abbrev pub invariant-loop-i : goal.invariant-loop-i
invariant-loop-i l = FiltersInPlace (λ f. not (in_partition l.partition f)) l.initial.files l.files l.others l.i
