-- What a step answers and leaves, by the store's definitions of its call.
use Rattle.std.specs.Prelude.{◌≡◌, ℕ, List, Result}
use Rattle.fault.specs.declared.Fault.{Fault}
use Rattle.content.specs.Patches.{patch}
use Rattle.store.specs.Meaning.{Disk, empty_disk, with_volume}
use Rattle.store.specs.Live.{read_answer, read_area}
use Rattle.store.specs.Durable.{remove_answer, removed, remove_partition_answer, removed_partition, scan_answer, scan_leaves, look_answer, look_leaves, crash_written, crash_resized}
use Rattle.store.specs.Whole.{open_answer, opened, write_answer, wrote, resize_answer, resized, sync_answer, synced, close_answer, closed_disk, restarted}
use Rattle.script.specs.declared.Step.{Step}
use Rattle.script.specs.declared.Step.TheVariants.{Reset, Restart, Open, Read, Write, Resize, Sync, Close, Remove, RemovePartition, Scan, Look, CrashWrite, CrashResize}
use Rattle.script.specs.declared.Answer.{Answer}
use Rattle.script.specs.declared.Answer.TheVariants.{Nothing, Done, Opened, Copied, Filled}

-- the length of a step's area, 0 where it has none
abbrev pub area_of : Step → ℕ
area_of (Read _ _ len) = len
area_of (Scan _ len) = len
area_of (Look _ _ len) = len
area_of _ = 0

-- the store after a step
abbrev pub after : Disk → Step → Disk
after m Reset = empty_disk
after m Restart = restarted m
after m (Open p n header) = opened m p.now n.now header.now
after m (Read _ _ _) = m
after m (Write h offset bytes sync) = wrote m h offset bytes.now sync
after m (Resize h len) = resized m h len
after m (Sync h) = synced m h
after m (Close h) = closed_disk m h
after m (Remove p n) = with_volume m (removed m.volume p.now n.now)
after m (RemovePartition p) = with_volume m (removed_partition m.volume p.now)
after m (Scan _ _) = m
after m (Look _ _ _) = m
after m (CrashWrite g offset bytes chosen) = with_volume m (crash_written m.volume g offset (patch bytes.now chosen.now))
after m (CrashResize g len) = with_volume m (crash_resized m.volume g len)

-- the answer of a read, and its area
abbrev pub IsCopied : Result (Unit {0}) Fault → List ℕ → Answer → Type 0
IsCopied r bytes (Copied x area) = (x ≡ r) × (area.now ≡ bytes)
IsCopied _ _ _ = ⊥

-- the answer of a scan or a look, and its area
abbrev pub IsFilled : Result ℕ Fault → List ℕ → Answer → Type 0
IsFilled r bytes (Filled x area) = (x ≡ r) × (area.now ≡ bytes)
IsFilled _ _ _ = ⊥

-- the answer of a step on an area of the step's length
abbrev pub IsAnswer : Disk → Step → List ℕ → Answer → Type 0
IsAnswer m Reset _ a = a ≡ Nothing
IsAnswer m Restart _ a = a ≡ Nothing
IsAnswer m (Open p n header) _ a = a ≡ Opened (open_answer m p.now n.now header.now)
IsAnswer m (Read h offset len) area a = IsCopied (read_answer m.handles h offset len) (read_area m.handles h offset area) a
IsAnswer m (Write h offset bytes sync) _ a = a ≡ Done (write_answer m h offset bytes.now sync)
IsAnswer m (Resize h len) _ a = a ≡ Done (resize_answer m h len)
IsAnswer m (Sync h) _ a = a ≡ Done (sync_answer m h)
IsAnswer m (Close h) _ a = a ≡ Done (close_answer m h)
IsAnswer m (Remove p n) _ a = a ≡ Done (remove_answer m.volume p.now n.now)
IsAnswer m (RemovePartition p) _ a = a ≡ Done (remove_partition_answer m.volume p.now)
IsAnswer m (Scan p len) area a = IsFilled (scan_answer m.volume p.now len) (scan_leaves m.volume p.now area) a
IsAnswer m (Look p n len) area a = IsFilled (look_answer m.volume p.now n.now len) (look_leaves m.volume p.now n.now area) a
IsAnswer m (CrashWrite _ _ _ _) _ a = a ≡ Nothing
IsAnswer m (CrashResize _ _) _ a = a ≡ Nothing
