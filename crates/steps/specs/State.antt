-- The state of the bench, in two layers: the injection layer over a store and the words of a draw source, and the register
-- above it.
use Rattle.std.specs.Prelude.{ℕ, cond, List, [], Some, None, Option, ◌==◌, nat_lt}
use Rattle.fault.specs.Numbers.{number}
use Rattle.fault.specs.declared.Fault.{Fault}
use Rattle.draw.specs.Words.{Words}
use Rattle.draw.specs.declared.select.PartialWriteMode.{PartialWriteMode}
use Rattle.store.specs.Meaning.{Disk, Done, empty_disk, when_some}
use Rattle.steps.specs.Log.{Entry}

-- The rates of a write: how often it fails, and how often a byte of it survives, in which arrangement.
pub record WriteRates : Type 0 where
  pub failure : ℕ
  pub retention : ℕ
  pub mode : PartialWriteMode

-- The rates of a resize: how often it fails, and how often a failing one goes part of the way.
pub record ResizeRates : Type 0 where
  pub failure : ℕ
  pub partial : ℕ

-- The rates, each set or not.
pub record Rates : Type 0 where
  pub opens : Option ℕ
  pub reads : Option ℕ
  pub writes : Option WriteRates
  pub syncs : Option ℕ
  pub resizes : Option ResizeRates
  pub removes : Option ℕ
  pub scans : Option ℕ

-- no rate is set
abbrev pub unset : Rates
unset = record { opens = None; reads = None; writes = None; syncs = None; resizes = None; removes = None; scans = None }

-- a rate that is not set rolls at 0
abbrev pub rate_of : Option ℕ → ℕ
rate_of r = when_some r (λ n. n) 0

-- how often a write fails; 0 if not set
abbrev pub write_failure : Rates → ℕ
write_failure r = when_some r.writes (λ w. w.failure) 0

-- retention is set if its rate is set and not 0
abbrev pub retention : Rates → Option WriteRates
retention r = when_some r.writes (λ w. cond (w.retention == 0) None (Some w)) None

-- The size of a held handle, without the header.
pub record Size : Type 0 where
  pub handle : ℕ
  pub size : ℕ

-- A ticket that is held: a sync that was started, with its result.
pub record Ticket : Type 0 where
  pub number : ℕ
  pub result : Done

-- A name that is leased to a handle.
pub record Lease : Type 0 where
  pub partition : List ℕ
  pub name : List ℕ
  pub handle : ℕ

-- The injection layer: a store and the words of a source, the log, rates, sizes, held tickets and how many were issued.
pub record Faulty : Type 0 where
  pub store : Disk
  pub words : Words
  pub log : List Entry
  pub rates : Rates
  pub sizes : List Size
  pub tickets : List Ticket
  pub issued : ℕ

-- The register over the injection layer.
pub record Bench : Type 0 where
  pub under : Faulty
  pub leases : List Lease

-- a fresh bench over the words of a source
abbrev pub fresh : Words → Bench
fresh w = record {
  under = record { store = empty_disk; words = w; log = []; rates = unset; sizes = []; tickets = []; issued = 0 };
  leases = [];
}

-- What a call comes to: its answer, its area after it, how many words it took, and the state after it.
pub record Outcome (S A : Type 0) : Type 0 where
  pub answer : A
  pub area : List ℕ
  pub taken : ℕ
  pub next : S

-- of two faults the one with the smaller number
abbrev pub least : Option Fault → Option Fault → Option Fault
least None g = g
least (Some f) None = Some f
least (Some f) (Some g) = cond (nat_lt (number g) (number f)) (Some g) (Some f)

-- the state with other words
abbrev pub with_words : Faulty → Words → Faulty
with_words b w = record { store = b.store; words = w; log = b.log; rates = b.rates; sizes = b.sizes; tickets = b.tickets; issued = b.issued }

-- the state with another store, log and sizes
abbrev pub changed : Faulty → Disk → List Entry → List Size → Faulty
changed b m es ss = record { store = m; words = b.words; log = es; rates = b.rates; sizes = ss; tickets = b.tickets; issued = b.issued }
