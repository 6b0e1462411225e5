-- Which files stand and which handles are held, by the calls and their answers alone.
use Rattle.std.specs.Prelude.{◌≡◌, ℕ, Bool, true, false, cond, ◌&&◌, List, [], ◌∷◌, map, is_some, Some, None, Ok, Err, ◌==◌}
use Rattle.std.specs.Str.{bytes_eq}
use Rattle.fault.specs.Numbers.{number}
use Rattle.draw.specs.Words.{Words}
use Rattle.store.specs.declared.file.File.{File}
use Rattle.store.specs.declared.handle.Handle.{Handle}
use Rattle.store.specs.Live.{handle_at}
use Rattle.store.specs.Durable.{file_at, file_stands}
use Rattle.steps.specs.Calls.{Call, Open, Remove, Scan, Read, Write, Resize, Size, Sync, StartSync, Settle, Close, Configure, Look, Crash, Restart, Reply, Opened, Counted, Told, step, run}
use Rattle.laws.specs.Ledger.{is_accepted}
use Rattle.laws.specs.Promises.{left}

-- an open that found its file or made it: accepted, or AlreadyOpen
abbrev pub finds : Reply → Bool
finds (Opened (Ok a)) = true
finds (Opened (Err f)) = number f == 13
finds (Counted r) = false
finds (Told r) = false

-- an open that gave this handle
abbrev pub gives : Reply → ℕ → Bool
gives (Opened (Ok a)) h = a.0 == h
gives (Opened (Err f)) h = false
gives (Counted r) h = false
gives (Told r) h = false

-- A file of a name stands from the open that makes it until its removal, or that of its partition.
abbrev pub stands_after : Call → Reply → List ℕ → List ℕ → Bool → Bool
stands_after (Open q m header) r p n was = cond ((bytes_eq q p && bytes_eq m n) && finds r) true was
stands_after (Remove q None) r p n was = cond (bytes_eq q p && is_accepted r) false was
stands_after (Remove q (Some m)) r p n was = cond ((bytes_eq q p && bytes_eq m n) && is_accepted r) false was
stands_after (Scan q start len) r p n was = was
stands_after (Read h offset start len) r p n was = was
stands_after (Write h offset bs sync) r p n was = was
stands_after (Resize h len) r p n was = was
stands_after (Size h) r p n was = was
stands_after (Sync h) r p n was = was
stands_after (StartSync h) r p n was = was
stands_after (Settle t) r p n was = was
stands_after (Close h) r p n was = was
stands_after (Configure rates) r p n was = was
stands_after (Look q m start len) r p n was = was
stands_after Crash r p n was = was
stands_after Restart r p n was = was

-- A handle is held from the open that gives it until its close or a restart.
abbrev pub held_after : Call → Reply → ℕ → Bool → Bool
held_after (Open q m header) r h was = cond (gives r h) true was
held_after (Remove q m) r h was = was
held_after (Scan q start len) r h was = was
held_after (Read k offset start len) r h was = was
held_after (Write k offset bs sync) r h was = was
held_after (Resize k len) r h was = was
held_after (Size k) r h was = was
held_after (Sync k) r h was = was
held_after (StartSync k) r h was = was
held_after (Settle t) r h was = was
held_after (Close k) r h was = cond (k == h && is_accepted r) false was
held_after (Configure rates) r h was = was
held_after (Look q m start len) r h was = was
held_after Crash r h was = was
held_after Restart r h was = false

-- after a list of calls with their answers
abbrev pub stands_by : List Call → List Reply → List ℕ → List ℕ → Bool → Bool
stands_by [] rs p n was = was
stands_by (c ∷ cs) [] p n was = was
stands_by (c ∷ cs) (r ∷ rs) p n was = stands_by cs rs p n (stands_after c r p n was)

abbrev pub held_by : List Call → List Reply → ℕ → Bool → Bool
held_by [] rs h was = was
held_by (c ∷ cs) [] h was = was
held_by (c ∷ cs) (r ∷ rs) h was = held_by cs rs h (held_after c r h was)

-- the answers of a list of calls on a fresh bench
abbrev pub replies : Words → List ℕ → List Call → List Reply
replies w area cs = map (λ t. t.reply) (run w area cs).answer

-- After every list of calls exactly those files stand that an open found or made and no removal took since, and exactly those
-- handles are held that an open gave and no close or restart ended since.
pub record Standing (w : Words) (area : List ℕ) (cs : List Call) : Type 0 where
  pub files : (p n : List ℕ) → file_stands (left w area cs).under.store.volume p n ≡ stands_by cs (replies w area cs) p n false
  pub handles : (h : ℕ) → is_some (handle_at (left w area cs).under.store.handles h) ≡ held_by cs (replies w area cs) h false
  -- an open gives a handle of the file that it names
  pub opens : (p n header : List ℕ) (rest : List ℕ) (a : ℕ × ℕ) → let o = step (left w area cs) (Open p n header) rest in
      o.answer ≡ Opened (Ok a)
      → (f : File) × (x : Handle) × (file_at o.next.under.store.volume p n ≡ Some f) × (handle_at o.next.under.store.handles a.0 ≡ Some x)
      × (x.generation ≡ f.generation) × (x.header ≡ f.header) × (x.live ≡ f.durable)

-- whatever words are drawn
abbrev pub StandingPromise : Type 0
StandingPromise = (w : Words) (area : List ℕ) (cs : List Call) → Standing w area cs
