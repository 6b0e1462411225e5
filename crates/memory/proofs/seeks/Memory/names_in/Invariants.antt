use Rattle.std.proofs.Common.{◌≡◌, ◌≤◌, map, length, take, filter}
use Rattle.name.specs.Listings.{sorted}
use Rattle.store.specs.Durable.{in_partition}
use Rattle.memory.proofs.seeks.Memory.names_in.Given as goal

abbrev pub invariant-loop-file : goal.invariant-loop-file
invariant-loop-file l =
    (l.names ≡ sorted (map (λ f. f.name) (filter (in_partition l.partition) (take l.file-index l.self.files))))
    × (length l.names ≤ l.file-index)
