-- The fifteen calls, and lists of them on a fresh bench.
use Rattle.std.specs.Prelude.{ℕ, ◌+◌, Bool, List, [], ◌∷◌, ◌++◌, length, take, drop, Some, None, Option, Result}
use Rattle.fault.specs.declared.Fault.{Fault}
use Rattle.draw.specs.Words.{Words}
use Rattle.store.specs.Meaning.{Done}
use Rattle.steps.specs.State.{Rates, Faulty, Bench, Outcome, fresh}
use Rattle.steps.specs.Faulty.{scan_step, read_step, write_step, resize_step, size_step, sync_step, start_sync_step, settle_step, configure_step, look_step, crash_step}
use Rattle.steps.specs.Register.{lifted, open_call, remove_call, remove_partition_call, close_call, restart_call}

-- A read, a scan and a look name a stretch of the caller's one area: where it starts and how long it is, so far as the area
-- reaches.
pub data Call : Type 0 where
  Open : (partition name header : List ℕ) → Call
  Remove : (partition : List ℕ) (name : Option (List ℕ)) → Call
  Scan : (partition : List ℕ) (start len : ℕ) → Call
  Read : (handle offset start len : ℕ) → Call
  Write : (handle offset : ℕ) (bytes : List ℕ) (sync : Bool) → Call
  Resize : (handle len : ℕ) → Call
  Size : (handle : ℕ) → Call
  Sync : (handle : ℕ) → Call
  StartSync : (handle : ℕ) → Call
  Settle : (ticket : ℕ) → Call
  Close : (handle : ℕ) → Call
  Configure : (rates : Rates) → Call
  Look : (partition name : List ℕ) (start len : ℕ) → Call
  Crash : Call
  Restart : Call

-- an answer: of an open, of a call that gives a number, of any other
pub data Reply : Type 0 where
  Opened : Result (ℕ × ℕ) Fault → Reply
  Counted : Result ℕ Fault → Reply
  Told : Done → Reply

-- the stretch of an area, and the area with another stretch in its place
abbrev pub stretch : List ℕ → ℕ → ℕ → List ℕ
stretch area start len = take len (drop start area)

-- the area with new bytes from a start on
abbrev pub replaced : List ℕ → ℕ → List ℕ → List ℕ
replaced area start new = take start area ++ (new ++ drop (start + length new) area)

-- an outcome as a reply, over the whole area
abbrev pub shown : {A : Type 0} → (A → Reply) → List ℕ → Outcome Bench A → Outcome Bench Reply
shown reply area o = record { answer = reply o.answer; area = area; taken = o.taken; next = o.next }

-- an outcome as a reply, in a stretch of the area
abbrev pub within : {A : Type 0} → (A → Reply) → List ℕ → ℕ → Outcome Bench A → Outcome Bench Reply
within reply area start o = record { answer = reply o.answer; area = replaced area start o.area; taken = o.taken; next = o.next }

-- a removal of a partition, or of a file if a name is given
abbrev pub removal : Bench → List ℕ → Option (List ℕ) → Outcome Bench Done
removal b p None = remove_partition_call b p
removal b p (Some n) = remove_call b p n

-- a step of the layer below, which leaves the leases
abbrev pub below : {A : Type 0} → Bench → Outcome Faulty A → Outcome Bench A
below b o = lifted o b.leases

-- the step of each call on the whole bench
abbrev pub step : Bench → Call → List ℕ → Outcome Bench Reply
step b (Open p n header) area = shown Opened area (open_call b p n header)
step b (Remove p n) area = shown Told area (removal b p n)
step b (Scan p start len) area = within Counted area start (below b (scan_step b.under p (stretch area start len)))
step b (Read h offset start len) area = within Told area start (below b (read_step b.under h offset (stretch area start len)))
step b (Write h offset bs sync) area = shown Told area (below b (write_step b.under h offset bs sync))
step b (Resize h len) area = shown Told area (below b (resize_step b.under h len))
step b (Size h) area = shown Counted area (below b (size_step b.under h))
step b (Sync h) area = shown Told area (below b (sync_step b.under h))
step b (StartSync h) area = shown Counted area (below b (start_sync_step b.under h))
step b (Settle t) area = shown Told area (below b (settle_step b.under t))
step b (Close h) area = shown Told area (close_call b h)
step b (Configure r) area = shown Told area (below b (configure_step b.under r))
step b (Look p n start len) area = within Counted area start (below b (look_step b.under p n (stretch area start len)))
step b Crash area = shown Told area (below b (crash_step b.under))
step b Restart area = shown Told area (restart_call b)

-- A call's answer and how many words it took.
pub record Turn : Type 0 where
  pub reply : Reply
  pub words : ℕ

-- What a list of calls comes to: the turns in order, the area, the words taken in all and the bench.
abbrev pub run_from : Bench → List ℕ → List Call → Outcome Bench (List Turn)
run_from b area [] = record { answer = []; area = area; taken = 0; next = b }
run_from b area (c ∷ cs) =
    let o = step b c area in
    let more = run_from o.next o.area cs in
    record { answer = record { reply = o.answer; words = o.taken } ∷ more.answer; area = more.area; taken = o.taken + more.taken; next = more.next }

-- on a fresh bench
abbrev pub run : Words → List ℕ → List Call → Outcome Bench (List Turn)
run w area cs = run_from (fresh w) area cs
