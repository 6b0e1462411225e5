use Rattle.std.proofs.Common.{◌≡◌, ◌-◌, ◌++◌, length, take}
use Rattle.draw.specs.Words.{after}
use Rattle.draw.specs.Selections.{subset, subset_taken}
use Rattle.draw.proofs.select.subset.Given as goal

abbrev pub invariant-loop-flag : goal.invariant-loop-flag
invariant-loop-flag g l =
    let n = length l.initial.chosen in
    let words = g.S.Source.words in
    (take l.flag-index l.chosen ++ subset l.rate (n - l.flag-index) (words l.source) ≡ subset l.rate n (words l.initial.source))
    × (after (subset_taken l.rate (n - l.flag-index)) (words l.source) ≡ after (subset_taken l.rate n) (words l.initial.source))
