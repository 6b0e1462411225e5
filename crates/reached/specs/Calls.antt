-- The calls that change a store, and the stores that they reach from the empty one.
use Rattle.std.specs.Prelude.{ℕ, Bool, List, [], ◌∷◌}
use Rattle.content.specs.Patches.{Patch}
use Rattle.store.specs.Meaning.{Disk, empty_disk, with_volume}
use Rattle.store.specs.Durable.{removed, removed_partition, crash_written, crash_resized}
use Rattle.store.specs.Whole.{opened, wrote, resized, synced, closed_disk, restarted}

-- A call that may change a store.
pub data Call : Type 0 where
  Reset : Call
  Open : (partition name header : List ℕ) → Call
  Write : (handle offset : ℕ) (bytes : List ℕ) (sync : Bool) → Call
  Resize : (handle len : ℕ) → Call
  Sync : (handle : ℕ) → Call
  Close : (handle : ℕ) → Call
  Remove : (partition name : List ℕ) → Call
  RemovePartition : (partition : List ℕ) → Call
  CrashWrite : (generation offset : ℕ) (bytes : Patch) → Call
  CrashResize : (generation len : ℕ) → Call
  Restart : Call

-- what a call leaves, by its definition
abbrev pub after : Disk → Call → Disk
after m Reset = empty_disk
after m (Open p n header) = opened m p n header
after m (Write h offset bs sync) = wrote m h offset bs sync
after m (Resize h len) = resized m h len
after m (Sync h) = synced m h
after m (Close h) = closed_disk m h
after m (Remove p n) = with_volume m (removed m.volume p n)
after m (RemovePartition p) = with_volume m (removed_partition m.volume p)
after m (CrashWrite g offset os) = with_volume m (crash_written m.volume g offset os)
after m (CrashResize g len) = with_volume m (crash_resized m.volume g len)
after m Restart = restarted m

-- what a list of calls leaves
abbrev pub after_all : Disk → List Call → Disk
after_all m [] = m
after_all m (c ∷ cs) = after_all (after m c) cs

-- the store that calls reach from the empty one
abbrev pub reached : List Call → Disk
reached cs = after_all empty_disk cs
