-- The whole store: what each call answers and leaves.
use Rattle.std.specs.Prelude.{ℕ, ◌+◌, ◌-◌, Bool, cond, ◌||◌, List, [], length, Some, None, Ok, Err, Option, Result}
use Rattle.fault.specs.declared.Fault.{Fault}
use Rattle.fault.specs.declared.Fault.TheVariants.{NoHandle, TooLong, TableFull, BadPartition}
use Rattle.name.specs.Names.{is_partition}
use Rattle.store.specs.declared.file.File.{File}
use Rattle.store.specs.Meaning.{Volume, Disk, with_handles, with_volume, when_some, refused, when_ok, Done}
use Rattle.store.specs.Live.{handle_at, handles_full, handles_with, held_fault, write_fault, resize_fault, live_written, live_resized, closed}
use Rattle.store.specs.Durable.{open_too_long, crowded, opened_file, opened_volume, file_stands, keep_answer, durable_written, durable_replaced}

-- what an open meets: TooLong, then TableFull
abbrev pub open_fault : Disk → List ℕ → List ℕ → List ℕ → Option Fault
open_fault m p n header =
    cond (open_too_long p n header) (Some TooLong)
    (cond (handles_full m.handles m.issued || crowded m.volume p n) (Some TableFull) None)

-- the size of a file: its durable bytes without the header
abbrev pub size_of : File → ℕ
size_of f = length f.durable - f.header

-- an open gives the handle's number and the file's size together
abbrev pub open_answer : Disk → List ℕ → List ℕ → List ℕ → Result (ℕ × ℕ) Fault
open_answer m p n header =
    refused (open_fault m p n header)
    (cond (is_partition p) (Ok (m.issued, size_of (opened_file m.volume p n header m.generations))) (Err BadPartition))

-- the handle's live bytes are a copy of the durable ones
abbrev pub opened : Disk → List ℕ → List ℕ → List ℕ → Disk
opened m p n header =
    let f = opened_file m.volume p n header m.generations in
    when_ok (open_answer m p n header)
    (record {
      volume = opened_volume m.volume p n header m.generations;
      handles = handles_with m.handles m.issued f.generation f.header f.durable;
      generations = cond (file_stands m.volume p n) m.generations (m.generations + 1);
      issued = m.issued + 1;
    })
    m

-- a call that makes bytes durable gives BlobMissing if no file has the handle's generation
abbrev pub sync_of : Disk → ℕ → Done
sync_of m n = when_some (handle_at m.handles n) (λ h. keep_answer m.volume h.generation) (Err NoHandle)

-- a write is plain, or SYNC: then its bytes become durable at once
abbrev pub write_answer : Disk → ℕ → ℕ → List ℕ → Bool → Done
write_answer m n offset bs sync = refused (write_fault m.handles n offset (length bs)) (cond sync (sync_of m n) (Ok tt))

-- the live change, and with SYNC the same change of the durable bytes; where the file is missing the live change remains
abbrev pub written_live : Disk → ℕ → ℕ → List ℕ → Disk
written_live m n offset bs = with_handles m (live_written m.handles n offset bs)

-- the durable change of a SYNC write, at the handle's header length and the offset
abbrev pub written_durable : Disk → ℕ → ℕ → List ℕ → Volume
written_durable m n offset bs =
    when_some (handle_at m.handles n) (λ h. durable_written m.volume h.generation (h.header + offset) bs) m.volume

-- what a write leaves: a refusal leaves all as it was
abbrev pub wrote : Disk → ℕ → ℕ → List ℕ → Bool → Disk
wrote m n offset bs sync =
    when_some (write_fault m.handles n offset (length bs)) (λ _. m)
    (cond sync (with_volume (written_live m n offset bs) (written_durable m n offset bs)) (written_live m n offset bs))

-- NoHandle, NoSpace, or done
abbrev pub resize_answer : Disk → ℕ → ℕ → Done
resize_answer m n len = refused (resize_fault m.handles n len) (Ok tt)

-- the live bytes cut or zero-filled
abbrev pub resized : Disk → ℕ → ℕ → Disk
resized m n len = when_ok (resize_answer m n len) (with_handles m (live_resized m.handles n len)) m

-- a sync makes the durable bytes equal to the live ones
abbrev pub sync_answer : Disk → ℕ → Done
sync_answer m n = sync_of m n

-- the durable bytes become the live ones
abbrev pub synced : Disk → ℕ → Disk
synced m n = with_volume m (when_some (handle_at m.handles n) (λ h. durable_replaced m.volume h.generation h.live) m.volume)

-- NoHandle, or done
abbrev pub close_answer : Disk → ℕ → Done
close_answer m n = refused (held_fault m.handles n) (Ok tt)

-- the handle is gone
abbrev pub closed_disk : Disk → ℕ → Disk
closed_disk m n = with_handles m (closed m.handles n)

-- a restart ends all handles
abbrev pub restarted : Disk → Disk
restarted m = with_handles m []
