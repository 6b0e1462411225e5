-- What a store means: partitions and files, which a restart leaves, and open handles, which it ends. A file and a handle are
-- the structs of the code, with names and contents as lists of bytes.
use Rattle.std.specs.Prelude.{ℕ, List, [], Some, None, Ok, Err, Option, Result}
use Rattle.fault.specs.declared.Fault.{Fault}
use Rattle.store.specs.declared.file.File.{File}
use Rattle.store.specs.declared.handle.Handle.{Handle}

-- What a restart leaves: partitions and files, each in the order of their making. No call shows that order; it makes the
-- meaning the same whichever place an implementation gives a file.
pub record Volume : Type 0 where
  pub partitions : List (List ℕ)
  pub files : List File

-- A store: a volume, the handles held in the order of their opening, and how many generations and handles were issued.
-- Both counts begin at 0, and no number is issued twice: the next file made has the generation `generations`, the next
-- handle the number `issued`.
pub record Disk : Type 0 where
  pub volume : Volume
  pub handles : List Handle
  pub generations : ℕ
  pub issued : ℕ

-- no partition and no file
abbrev pub empty_volume : Volume
empty_volume = record { partitions = []; files = [] }

-- a store that was just made
abbrev pub empty_disk : Disk
empty_disk = record { volume = empty_volume; handles = []; generations = 0; issued = 0 }

-- a handle with other live bytes
abbrev pub with_live : Handle → List ℕ → Handle
with_live h bs = record { number = h.number; generation = h.generation; header = h.header; live = bs }

-- a file with other durable bytes
abbrev pub with_durable : File → List ℕ → File
with_durable f bs = record { partition = f.partition; name = f.name; generation = f.generation; header = f.header; durable = bs }

-- a volume with other files
abbrev pub with_files : Volume → List File → Volume
with_files v fs = record { partitions = v.partitions; files = fs }

-- a store with other handles
abbrev pub with_handles : Disk → List Handle → Disk
with_handles m hs = record { volume = m.volume; handles = hs; generations = m.generations; issued = m.issued }

-- a store with another volume
abbrev pub with_volume : Disk → Volume → Disk
with_volume m v = record { volume = v; handles = m.handles; generations = m.generations; issued = m.issued }

-- what is made of the value in a `Some`, or else a default; std's `option_map_or` takes the parts in another order
abbrev pub when_some : {A B : Type 0} → Option A → (A → B) → B → B
when_some None f b = b
when_some (Some a) f b = f a

-- a fault that is met comes before any other answer
abbrev pub refused : {A : Type 0} → Option Fault → Result A Fault → Result A Fault
refused None r = r
refused (Some f) r = Err f

-- the answer of a call that gives no number
abbrev pub Done : Type 0
Done = Result (Unit {0}) Fault

-- the answer of a question: the fault that is met, or none
abbrev pub permitted : Option Fault → Done
permitted f = refused f (Ok tt)

-- what a call leaves: the new where it succeeds, and else the old
abbrev pub when_ok : {A B : Type 0} → Result A Fault → B → B → B
when_ok (Ok a) new old = new
when_ok (Err f) new old = old
