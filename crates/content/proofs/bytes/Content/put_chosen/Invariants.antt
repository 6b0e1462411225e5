use Rattle.std.proofs.Common.{◌≡◌, ◌+◌, length}
use Rattle.std.specs.Slice.Iter.{iter_rest}
use Rattle.content.specs.Patches.{patch, lay}
use Rattle.content.proofs.bytes.Content.put_chosen.Given as goal

-- what is still to be laid leads to what all of it leads to
abbrev pub invariant-loop-place : goal.invariant-loop-place
invariant-loop-place l =
    (goal.iterator-loop-place).can_next l.place-iterator
    × (goal.iterator-loop-place).is_finite l.place-iterator
    × (l.place-iterator.a.start + length (iter_rest l.place-iterator.b.a) ≡ l.at + length l.patch)
    × (l.place-iterator.a.end ≡ 1016)
    × (lay l.self l.place-iterator.a.start (patch (iter_rest l.place-iterator.b.a) (iter_rest l.place-iterator.b.b))
    ≡ lay l.initial.self l.at l.patch)
