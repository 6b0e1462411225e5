-- The ledger: an observer that is fed the calls, their answers, the words that they took and, after a crash, the store's
-- files. It keeps rates, sizes and a store of its own, and a page for each generation; it never sees the log.
use Rattle.std.specs.Prelude.{ℕ, ◌+◌, ◌-◌, min, max, Bool, true, false, cond, ◌&&◌, List, [], length, Some, None, Ok, Err, Option, Result, ◌==◌, nat_eq, nat_le, nat_lt, map}
use Rattle.std.specs.Result.{is_ok}
use Rattle.fault.specs.Numbers.{number, operation, detail}
use Rattle.fault.specs.declared.Op.{Op}
use Rattle.fault.specs.declared.Op.TheVariants as op
use Rattle.fault.specs.declared.Fault.{Fault}
use Rattle.draw.specs.Words.{Words, after, rolled, roll_taken}
use Rattle.draw.specs.Sources.{tape_words}
use Rattle.draw.specs.Selections.{selected}
use Rattle.content.specs.Patches.{Patch, patch}
use Rattle.store.specs.declared.file.File.{File}
use Rattle.store.specs.declared.handle.Handle.{Handle}
use Rattle.store.specs.Meaning.{Disk, empty_disk, with_files, with_volume, when_some}
use Rattle.store.specs.Live.{handle_at}
use Rattle.store.specs.Durable.{file_of, file_stands}
use Rattle.store.specs.Whole.{sync_answer}
use Rattle.steps.specs.State.{Rates, unset, rate_of, write_failure, retention, Size, Faulty, Outcome}
use Rattle.steps.specs.Faulty.{size_in, open_step, remove_step, remove_partition_step, write_step, resize_step, sync_step, start_sync_step, close_step, configure_step, restart_step}
use Rattle.steps.specs.Calls.{Call, Open, Remove, Scan, Read, Write, Resize, Size as AskSize, Sync, StartSync, Settle, Close, Configure, Look, Crash, Restart, Reply, Opened, Counted, Told}
use Rattle.laws.specs.Pages.{Page, fix_whole, fix_range, put_range, mark_all}

-- What the ledger keeps: rates, sizes, a store, and a page for each generation.
pub record Ledger : Type 0 where
  pub rates : Rates
  pub sizes : List Size
  pub store : Disk
  pub pages : ℕ → Page

-- the ledger of a fresh bench
abbrev pub blank : Ledger
blank = record { rates = unset; sizes = []; store = empty_disk; pages = λ g. fix_whole [] }

-- a fault that is met before any draw; a read's overflow alters nothing either
abbrev pub early_fault : Fault → Bool
early_fault f = nat_le (number f) 8

-- an answer that is such a fault
abbrev pub early_in : {A : Type 0} → Result A Fault → Bool
early_in (Ok a) = false
early_in (Err f) = early_fault f

-- a reply that is such a fault: the call was refused
abbrev pub early : Reply → Bool
early (Opened r) = early_in r
early (Counted r) = early_in r
early (Told r) = early_in r

-- an answer's fault was injected in an operation
abbrev pub injected : Op → Fault → Bool
injected o f = when_some (detail f) (λ d. nat_eq d (operation o)) false

-- The injection layer as the ledger knows it: its rates, sizes and store, and the words that the call took. That it has no
-- log and no tickets decides nothing: a call that met LogFull or TicketsFull is not followed.
abbrev pub known : Ledger → Words → Faulty
known l w = record { store = l.store; words = w; log = []; rates = l.rates; sizes = l.sizes; tickets = []; issued = 0 }

-- rates, sizes and store become what a step says
abbrev pub followed : {A : Type 0} → Outcome Faulty A → (ℕ → Page) → Ledger
followed o pages = record { rates = o.next.rates; sizes = o.next.sizes; store = o.next.store; pages = pages }

-- a change of one generation's page
abbrev pub turned : ℕ → (Page → Page) → (ℕ → Page) → ℕ → Page
turned g f pages h = cond (h == g) (f (pages h)) (pages h)

-- a change of the page of a handle's file
abbrev pub of_handle : Ledger → ℕ → (Handle → Page → Page) → ℕ → Page
of_handle l h f = when_some (handle_at l.store.handles h) (λ x. turned x.generation (f x) l.pages) l.pages

-- a write that went no further than the live bytes puts its bytes if retention is set, and nothing if not
abbrev pub puts : Ledger → ℕ → ℕ → List ℕ → ℕ → Page
puts l h offset bs = when_some (retention l.rates) (λ _. of_handle l h (λ x. put_range (x.header + offset) (map Some bs))) l.pages

-- bytes are fixed from an offset on, in the page of a handle's file
abbrev pub fixes : Ledger → ℕ → ℕ → Patch → ℕ → Page
fixes l h offset f = of_handle l h (λ x. fix_range (x.header + offset) f)

-- the bytes that a failing write kept: none without retention, else those of the selection, drawn after the failure roll
abbrev pub survived : Ledger → List ℕ → Words → Patch
survived l bs w =
    when_some (retention l.rates) (λ r. patch bs (selected r.mode r.retention (length bs) (after (roll_taken (write_failure l.rates)) w))) []

-- What a write leaves on the page: a SYNC write that was accepted fixes its bytes, a failing one those that it kept; a plain
-- write, and a SYNC write whose sync failed, puts them, if retention is set; BlobMissing leaves nothing.
abbrev pub write_pages : Ledger → ℕ → ℕ → List ℕ → Bool → Reply → Words → ℕ → Page
write_pages l h offset bs sync (Opened r) w = l.pages
write_pages l h offset bs sync (Counted r) w = l.pages
write_pages l h offset bs sync (Told (Ok a)) w = cond sync (fixes l h offset (map Some bs)) (puts l h offset bs)
write_pages l h offset bs sync (Told (Err f)) w =
    cond (injected op.Write f) (fixes l h offset (survived l bs w)) (cond (injected op.Sync f) (puts l h offset bs) l.pages)

-- whether a resize was recorded: an accepted one if the second roll said yes, a failing one if it went part of the way
abbrev pub resize_recorded : Ledger → ℕ → ℕ → Bool → Words → Bool
resize_recorded l h len accepted w =
    when_some l.rates.resizes
    (λ r.
    let size = size_in l.sizes h in
    let next = after (roll_taken r.failure) w in
    cond accepted (rolled r.failure next) (rolled r.partial next && nat_lt 1 (max size len - min size len)))
    false

-- a reply that is no fault
abbrev pub is_accepted : Reply → Bool
is_accepted (Opened (Ok a)) = true
is_accepted (Opened (Err f)) = false
is_accepted (Counted (Ok a)) = true
is_accepted (Counted (Err f)) = false
is_accepted (Told r) = is_ok r

-- a file's making fixes its header
abbrev pub open_pages : Ledger → List ℕ → List ℕ → List ℕ → ℕ → Page
open_pages l p n header = cond (file_stands l.store.volume p n) l.pages (turned l.store.generations (λ _. fix_whole header) l.pages)

-- An open that succeeded below; where the name was leased, AlreadyOpen, the register has closed the new handle again. After
-- any other fault nothing was opened.
abbrev pub opens : Ledger → List ℕ → List ℕ → List ℕ → Reply → Words → Ledger
opens l p n header (Counted r) w = l
opens l p n header (Told r) w = l
opens l p n header (Opened (Ok a)) w = followed (open_step (known l w) p n header) (open_pages l p n header)
opens l p n header (Opened (Err f)) w =
    cond (number f == 13) (followed (close_step (open_step (known l w) p n header).next l.store.issued) (open_pages l p n header)) l

-- a removal changes the store alone
abbrev pub removes : Ledger → List ℕ → Option (List ℕ) → Words → Ledger
removes l p None w = followed (remove_partition_step (known l w) p) l.pages
removes l p (Some n) w = followed (remove_step (known l w) p n) l.pages

-- the durable bytes of a file, or none
abbrev pub content_of : Option File → List ℕ
content_of None = []
content_of (Some f) = f.durable

-- what a call that was not refused does to the ledger, given its reply, its words and the files after it
abbrev pub fed : Ledger → Call → Reply → Words → List File → Ledger
fed l (Open p n header) r w fs = opens l p n header r w
fed l (Remove p n) r w fs = removes l p n w
fed l (Scan p start len) r w fs = l
fed l (Read h offset start len) r w fs = l
fed l (Write h offset bs sync) r w fs = followed (write_step (known l w) h offset bs sync) (write_pages l h offset bs sync r w)
fed l (Resize h len) r w fs =
    followed (resize_step (known l w) h len) (cond (resize_recorded l h len (is_accepted r) w) (of_handle l h (λ _. mark_all)) l.pages)
fed l (AskSize h) r w fs = l
fed l (Sync h) r w fs = followed (sync_step (known l w) h) (cond (is_accepted r) (of_handle l h (λ x _. fix_whole x.live)) l.pages)
fed l (StartSync h) r w fs =
    followed (start_sync_step (known l w) h)
    (cond (rolled (rate_of l.rates.syncs) w) l.pages (cond (is_ok (sync_answer l.store h)) (of_handle l h (λ x _. fix_whole x.live)) l.pages))
fed l (Settle t) r w fs = l
fed l (Close h) r w fs = followed (close_step (known l w) h) l.pages
fed l (Configure rates) r w fs = followed (configure_step (known l w) rates) l.pages
fed l (Look p n start len) r w fs = l
fed l Crash r w fs =
    record {
      rates = l.rates;
      sizes = l.sizes;
      store = with_volume l.store (with_files l.store.volume fs);
      pages = λ g. fix_whole (content_of (file_of (with_files l.store.volume fs) g));
    }
fed l Restart r w fs = followed (restart_step (known l w)) l.pages

-- calls refused before a draw alter nothing
abbrev pub feed : Ledger → Call → Reply → List ℕ → List File → Ledger
feed l c r took fs = cond (early r) l (fed l c r (tape_words took) fs)
