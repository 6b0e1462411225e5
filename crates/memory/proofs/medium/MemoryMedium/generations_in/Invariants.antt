use Rattle.std.proofs.Common.{◌≡◌, ◌≤◌, map, length, take, filter}
use Rattle.store.specs.Durable.{in_partition}
use Rattle.memory.proofs.medium.MemoryMedium.generations_in.Given as goal

abbrev pub invariant-loop-file : goal.invariant-loop-file
invariant-loop-file l =
    (l.taken.items ≡ map (λ f. f.generation) (filter (in_partition l.partition) (take l.file-index l.self.files)))
    × (length l.taken.items ≤ l.file-index)
