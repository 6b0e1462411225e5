-- The promises, over every list of calls on a fresh bench, with any arguments and any words.
use Rattle.std.specs.Prelude.{◌≡◌, ℕ, zero, suc, ◌+◌, ◌<◌, ◌≤◌, true, false, List, [], ◌∷◌, ◌++◌, length, Some, Ok, Err, Decides, ◌≢◌}
use Rattle.std.specs.List.{ContainsAt}
use Rattle.fault.specs.declared.Op.TheVariants as op
use Rattle.fault.specs.declared.Fault.TheVariants.{Injected}
use Rattle.draw.specs.Words.{Words, rest, after}
use Rattle.store.specs.declared.file.File.{File}
use Rattle.store.specs.declared.handle.Handle.{Handle}
use Rattle.store.specs.Live.{handle_at, read_bytes}
use Rattle.store.specs.Durable.{file_of}
use Rattle.steps.specs.State.{Bench, Outcome, fresh, with_words}
use Rattle.steps.specs.Calls.{Call, Read, Size, Crash, Reply, Counted, Told, Turn, stretch, replaced, step, run}
use Rattle.laws.specs.Pages.{held, Allowed}
use Rattle.laws.specs.Ledger.{Ledger, blank, feed, is_accepted}

-- the first n words
abbrev pub taken : ℕ → Words → List ℕ
taken zero w = []
taken (suc n) w = w 0 ∷ taken n (rest w)

-- A bench and its area, with a ledger beside it.
pub record Watched : Type 0 where
  pub bench : Bench
  pub area : List ℕ
  pub ledger : Ledger

-- one call: the ledger is fed the call, its answer, the words that it took and the files after it
abbrev pub watch : Watched → Call → Watched
watch s c =
    let o = step s.bench c s.area in
    record {
      bench = o.next;
      area = o.area;
      ledger = feed s.ledger c o.answer (taken o.taken s.bench.under.words) o.next.under.store.volume.files;
    }

-- a list of calls
abbrev pub watched : Watched → List Call → Watched
watched s [] = s
watched s (c ∷ cs) = watched (watch s c) cs

-- a fresh bench and a blank ledger
abbrev pub begun : Words → List ℕ → Watched
begun w area = record { bench = fresh w; area = area; ledger = blank }

-- the ledger of a list of calls on a fresh bench
abbrev pub ledger : Words → List ℕ → List Call → Ledger
ledger w area cs = (watched (begun w area) cs).ledger

-- the bench that a list of calls leaves
abbrev pub left : Words → List ℕ → List Call → Bench
left w area cs = (run w area cs).next

-- the files of a bench
abbrev pub files_of : Bench → List File
files_of b = b.under.store.volume.files

-- the same file: its partition, name, generation and header length
pub record Same (f e : File) : Type 0 where
  pub partition : e.partition ≡ f.partition
  pub name : e.name ≡ f.name
  pub generation : e.generation ≡ f.generation
  pub header : e.header ≡ f.header

-- The ledger knows the bench's rates, sizes and store, though it never sees the log.
pub record Knows (l : Ledger) (b : Bench) : Type 0 where
  pub rates : l.rates ≡ b.under.rates
  pub sizes : l.sizes ≡ b.under.sizes
  pub store : l.store ≡ b.under.store

-- after every list of calls
abbrev pub LedgerKnows : Type 0
LedgerKnows = (w : Words) (area : List ℕ) (cs : List Call) → Knows (ledger w area cs) (left w area cs)

-- Where a list of calls ends in a crash: each file that stood before the crash stands after it; each that stands after it
-- stood before, and each of its places holds what the ledger allowed there before the crash.
pub record CrashKept (w : Words) (area : List ℕ) (before : List Call) : Type 0 where
  pub keeps : (f : File) → ContainsAt (files_of (left w area before)) f → (e : File) × ContainsAt (files_of (left w area (before ++ (Crash ∷ [])))) e × Same f e
  pub allowed : (e : File) → ContainsAt (files_of (left w area (before ++ (Crash ∷ [])))) e
      → (f : File) × ContainsAt (files_of (left w area before)) f × Same f e
      × ((p : ℕ) → Allowed ((ledger w area before).pages e.generation p) (held e.durable p))

-- after every list of calls, whatever words are drawn
abbrev pub CrashPromise : Type 0
CrashPromise = (w : Words) (area : List ℕ) (before : List Call) → CrashKept w area before

-- A read of a stretch of the caller's area, that no fault was injected into: it gives its bytes exactly when offset plus
-- length is at most the size, and else leaves the area as it is.
pub record Reads (h : Handle) (size offset start len : ℕ) (area : List ℕ) (o : Outcome Bench Reply) : Type 0 where
  pub gives : Decides (is_accepted o.answer) (offset + length (stretch area start len) ≤ size)
  pub bytes : is_accepted o.answer ≡ true → o.area ≡ replaced area start (read_bytes h offset (length (stretch area start len)))
  pub stays : is_accepted o.answer ≡ false → o.area ≡ area

-- The size that the bench tells of a handle is the count of its live bytes without the header, and decides its reads.
pub record SizesHold (b : Bench) (n : ℕ) (h : Handle) : Type 0 where
  pub size : ℕ
  pub told : (area : List ℕ) → (step b (Size n) area).answer ≡ Counted (Ok size)
  pub counts : size + h.header ≡ length h.live
  pub reads : (offset start len : ℕ) (area : List ℕ) → let o = step b (Read n offset start len) area in
      (o.answer ≢ Told (Err (Injected op.Read))) → Reads h size offset start len area o

-- While a held handle's file stands.
abbrev pub SizePromise : Type 0
SizePromise = (w : Words) (area : List ℕ) (cs : List Call) (n : ℕ) (h : Handle) (f : File)
    → let b = left w area cs in
    handle_at b.under.store.handles n ≡ Some h → file_of b.under.store.volume h.generation ≡ Some f → SizesHold b n h

-- the bench with other words to come
abbrev pub on_source : Bench → Words → Bench
on_source b w = record { under = with_words b.under w; leases = b.leases }

-- Two outcomes of one list of calls: the same answers, area bytes and counts of words, files equal in every part, and in all
-- the same bench, but that the second has left what it took of its own words.
pub record Agree (u : Words) (one two : Outcome Bench (List Turn)) : Type 0 where
  pub answers : two.answer ≡ one.answer
  pub area : two.area ≡ one.area
  pub taken : two.taken ≡ one.taken
  pub files : files_of two.next ≡ files_of one.next
  pub bench : two.next ≡ on_source one.next (after one.taken u)

-- Runs of one list of calls agree where their sources begin with the same words: as many as the first run takes.
abbrev pub Agreement : Type 0
Agreement = (w u : Words) (area : List ℕ) (cs : List Call) → ((k : ℕ) → k < (run w area cs).taken → w k ≡ u k) → Agree u (run w area cs) (run u area cs)
