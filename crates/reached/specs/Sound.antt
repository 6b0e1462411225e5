-- What the layers above a store lean on.
use Rattle.std.specs.Prelude.{◌≡◌, ℕ, ◌<◌, ◌≤◌, true, List, [], ◌∷◌, map, length, ◌≢◌}
use Rattle.std.specs.List.{AllByRecursion}
use Rattle.content.specs.Bytes.{limit}
use Rattle.name.specs.Names.{name_limit, is_partition}
use Rattle.store.specs.declared.file.File.{File}
use Rattle.store.specs.declared.handle.Handle.{Handle}
use Rattle.store.specs.Meaning.{Volume, Disk}
use Rattle.store.specs.Live.{handle_limit, issue_limit}
use Rattle.store.specs.Durable.{partition_limit, file_limit, header_limit, partition_stands}
use Rattle.reached.specs.Calls.{Call, reached}

-- no element stands twice; std's `AllPairs` says this place by place, and the proofs go by recursion on the list
abbrev pub Distinct : {A : Type 0} → List A → Type 0
Distinct [] = Unit {0}
Distinct (x ∷ xs) = AllByRecursion (λ y. x ≢ y) xs × Distinct xs

-- a content of a header of d bytes and what is behind it
pub record Sized (d : ℕ) (bs : List ℕ) : Type 0 where
  pub short : d ≤ header_limit
  pub whole : d ≤ length bs
  pub fits : length bs ≤ limit

-- a file's partition and name
abbrev pub name_of : File → List ℕ × List ℕ
name_of f = (f.partition, f.name)

-- Partitions and files: few, valid, unique, in standing partitions, of issued generations, within the limits.
pub record SoundFiles (v : Volume) (generations : ℕ) : Type 0 where
  pub few_partitions : length v.partitions ≤ partition_limit
  pub few_files : length v.files ≤ file_limit
  pub partitions_valid : AllByRecursion (λ p. is_partition p ≡ true) v.partitions
  pub partitions_distinct : Distinct v.partitions
  pub files_placed : AllByRecursion (λ f. partition_stands v f.partition ≡ true) v.files
  pub names_short : AllByRecursion (λ f. length f.name ≤ name_limit) v.files
  pub names_distinct : Distinct (map name_of v.files)
  pub generations_issued : AllByRecursion (λ f. f.generation < generations) v.files
  pub generations_distinct : Distinct (map (λ f. f.generation) v.files)
  pub files_sized : AllByRecursion (λ f. Sized f.header f.durable) v.files

-- Handles: few, of issued and unique numbers, of issued generations, within the limits.
pub record SoundHandles (hs : List Handle) (generations issued : ℕ) : Type 0 where
  pub few_handles : length hs ≤ handle_limit
  pub numbers_issued : AllByRecursion (λ h. h.number < issued) hs
  pub numbers_distinct : Distinct (map (λ h. h.number) hs)
  pub generations_issued : AllByRecursion (λ h. h.generation < generations) hs
  pub handles_sized : AllByRecursion (λ h. Sized h.header h.live) hs

-- handles of a standing file have its header length
abbrev pub Agree : List Handle → List File → Type 0
Agree hs fs = AllByRecursion (λ h. AllByRecursion (λ f. h.generation ≡ f.generation → h.header ≡ f.header) fs) hs

-- A store whose parts are sound and fit each other.
pub record Sound (m : Disk) : Type 0 where
  pub files : SoundFiles m.volume m.generations
  pub handles : SoundHandles m.handles m.generations m.issued
  pub headers : Agree m.handles m.volume.files
  pub few_generations : m.generations ≤ m.issued
  pub few_issued : m.issued ≤ issue_limit

-- Every store reached from the empty one by any calls is sound.
abbrev pub StoresAreSound : Type 0
StoresAreSound = (cs : List Call) → Sound (reached cs)
