-- The place of what a call names, or the fault that it meets.
use Rattle.std.specs.Prelude.{ℕ, Bool, not, ◌&&◌, List, length, Result, nat_le}
use Rattle.std.specs.Option.{ok_or}
use Rattle.std.specs.Str.{bytes_eq}
use Rattle.fault.specs.declared.Fault.{Fault}
use Rattle.fault.specs.declared.Fault.TheVariants.{PartitionMissing, BlobMissing}
use Rattle.std.specs.List.{position}
use Rattle.store.specs.Meaning.{Volume}
use Rattle.store.specs.Durable.{partition_limit, file_limit, partition_stands, file_stands, named, in_standing}

-- the place of a partition: BadPartition, then PartitionMissing
abbrev pub partition_place : Volume → List ℕ → Result ℕ Fault
partition_place v p = in_standing v p (ok_or (position (λ q. bytes_eq q p) v.partitions) PartitionMissing)

-- the place of a file: after these BlobMissing
abbrev pub file_place : Volume → List ℕ → List ℕ → Result ℕ Fault
file_place v p n = in_standing v p (ok_or (position (named p n) v.files) BlobMissing)

-- no room for a partition that is absent
abbrev pub partition_crowded : Volume → List ℕ → Bool
partition_crowded v p = not (partition_stands v p) && nat_le partition_limit (length v.partitions)

-- no room for a file that is absent
abbrev pub file_crowded : Volume → List ℕ → List ℕ → Bool
file_crowded v p n = not (file_stands v p n) && nat_le file_limit (length v.files)

-- a volume with other partitions
abbrev pub with_partitions : Volume → List (List ℕ) → Volume
with_partitions v ps = record { partitions = ps; files = v.files }
