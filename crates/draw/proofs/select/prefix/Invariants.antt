use Rattle.std.proofs.Common.{◌≡◌, ◌-◌, ◌++◌, length, take}
use Rattle.draw.specs.Words.{after}
use Rattle.draw.specs.Selections.{prefix, prefix_taken}
use Rattle.draw.proofs.Flags.{onward, onward_taken}
use Rattle.draw.proofs.select.prefix.Given as goal

abbrev pub invariant-loop-flag : goal.invariant-loop-flag
invariant-loop-flag g l =
    let n = length l.initial.chosen in
    let words = g.S.Source.words in
    let w = words l.source in
    let w₀ = words l.initial.source in
    (take l.flag-index l.chosen ++ onward l.going l.rate (n - l.flag-index) w ≡ prefix l.rate n w₀)
    × (after (onward_taken l.going l.rate (n - l.flag-index) w) w ≡ after (prefix_taken l.rate n w₀) w₀)
