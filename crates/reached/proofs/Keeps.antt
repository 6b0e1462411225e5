-- Each call keeps a store sound.
use Rattle.std.proofs.Common.{◌≡◌, ℕ, ◌+◌, ◌≤◌, leb, List, length, Some, sym, refl, subst, arith}
use Rattle.std.proofs.ByRecursion.{All-weaker}
use Rattle.std.proofs.lemmas.Bool.{cond_both, leb-true}
use Rattle.content.specs.Bytes.{limit, within, written, cut}
use Rattle.content.specs.Patches.{Patch, lay}
use Rattle.content.proofs.Lengths.{length-written, length_cut, lay-keeps, lay-ends}
use Rattle.std.specs.List.{find}
use Rattle.store.specs.Tables.{amended}
use Rattle.store.specs.declared.file.File.{File}
use Rattle.store.specs.declared.handle.Handle.{Handle}
use Rattle.store.specs.Meaning.{Volume, Disk, with_durable, with_live, with_files, with_volume}
use Rattle.store.specs.Live.{numbered}
use Rattle.store.specs.Durable.{generated, crash_written, crash_resized}
use Rattle.reached.specs.Sound.{Distinct, Sized, name_of, SoundFiles, SoundHandles, Agree, Sound}
use Rattle.reached.proofs.Lists.{all-amended, keys-amended, length-amended}

-- other durable bytes for the file of a generation
module _ (v : Volume) (gens g : ℕ) (change : File → List ℕ) (s : SoundFiles v gens)
    (keeps : (f : File) → find (generated g) v.files ≡ Some f → Sized f.header f.durable → Sized f.header (change f)) where
  abbrev changed : File → File
  changed f = with_durable f (change f)

  abbrev changes : List File
  changes = amended (generated g) changed v.files

  pub files-changed : SoundFiles (with_files v changes) gens
  files-changed = record {
    few_partitions = s.few_partitions;
    few_files = omega (arith, s.few_files, length-amended (generated g) changed v.files);
    partitions_valid = s.partitions_valid;
    partitions_distinct = s.partitions_distinct;
    files_placed = all-amended _ (generated g) changed v.files (λ x e q. q) s.files_placed;
    names_short = all-amended _ (generated g) changed v.files (λ x e q. q) s.names_short;
    names_distinct = subst Distinct (sym (keys-amended name_of (generated g) changed (λ x. refl) v.files)) s.names_distinct;
    generations_issued = all-amended _ (generated g) changed v.files (λ x e q. q) s.generations_issued;
    generations_distinct = subst Distinct (sym (keys-amended (λ (f : File). f.generation) (generated g) changed (λ x. refl) v.files)) s.generations_distinct;
    files_sized = all-amended _ (generated g) changed v.files keeps s.files_sized;
  }

  pub agree-changed : (hs : List Handle) → Agree hs v.files → Agree hs changes
  agree-changed hs a = All-weaker _ _ (λ h. all-amended _ (generated g) changed v.files (λ x e q. q)) hs a

-- other live bytes for the handle of a number
module _ (hs : List Handle) (gens issued n : ℕ) (change : Handle → List ℕ) (s : SoundHandles hs gens issued)
    (keeps : (h : Handle) → find (numbered n) hs ≡ Some h → Sized h.header h.live → Sized h.header (change h)) where
  abbrev turned : Handle → Handle
  turned h = with_live h (change h)

  pub handles-changed : SoundHandles (amended (numbered n) turned hs) gens issued
  handles-changed = record {
    few_handles = omega (arith, s.few_handles, length-amended (numbered n) turned hs);
    numbers_issued = all-amended _ (numbered n) turned hs (λ x e q. q) s.numbers_issued;
    numbers_distinct = subst Distinct (sym (keys-amended (λ (h : Handle). h.number) (numbered n) turned (λ x. refl) hs)) s.numbers_distinct;
    generations_issued = all-amended _ (numbered n) turned hs (λ x e q. q) s.generations_issued;
    handles_sized = all-amended _ (numbered n) turned hs keeps s.handles_sized;
  }

  pub agree-turned : (fs : List File) → Agree hs fs → Agree (amended (numbered n) turned hs) fs
  agree-turned fs a = all-amended _ (numbered n) turned hs (λ x e q. q) a

-- contents keep their header and stay within the limit
pub sized-written : (d at : ℕ) (xs ys : List ℕ) → at + length ys ≤ limit → Sized d xs → Sized d (written xs at ys)
sized-written d at xs ys h s =
    let n = length-written xs at ys in
    record { short = s.short; whole = omega (arith, s.whole); fits = omega (arith, s.fits) }

pub sized-cut : (d n : ℕ) (xs : List ℕ) → d ≤ n → n ≤ limit → Sized d xs → Sized d (cut n xs)
sized-cut d n xs l h s = let k = length_cut n xs in record { short = s.short; whole = omega arith; fits = omega arith }

sized-lay : (d at : ℕ) (xs : List ℕ) (os : Patch) → at + length os ≤ limit → Sized d xs → Sized d (lay xs at os)
sized-lay d at xs os h s =
    let n = lay-keeps xs at os in
    let m = lay-ends xs at os in
    record { short = s.short; whole = omega (arith, s.whole); fits = omega (arith, s.fits) }

sized-within : (d end : ℕ) (new old : List ℕ) → (end ≤ limit → Sized d new) → Sized d old → Sized d (within end new old)
sized-within d end new old h s = cond_both (leb end limit) new old (Sized d) (λ e. h (leb-true end limit e)) (λ _. s)

-- what a crash keeps
pub crash-write-sound : (m : Disk) (g offset : ℕ) (os : Patch) → Sound m → Sound (with_volume m (crash_written m.volume g offset os))
crash-write-sound m g offset os s =
    let change : File → List ℕ = λ f. within (f.header + offset + length os) (lay f.durable (f.header + offset) os) f.durable in
    let keeps : (f : File) → find (generated g) m.volume.files ≡ Some f → Sized f.header f.durable → Sized f.header (change f) =
    λ f e q. sized-within f.header (f.header + offset + length os) (lay f.durable (f.header + offset) os) f.durable (λ h. sized-lay f.header (f.header + offset) f.durable os h q) q in
    record {
      files = files-changed m.volume m.generations g change s.files keeps;
      handles = s.handles;
      headers = agree-changed m.volume m.generations g change s.files keeps m.handles s.headers;
      few_generations = s.few_generations;
      few_issued = s.few_issued;
    }

pub crash-resize-sound : (m : Disk) (g len : ℕ) → Sound m → Sound (with_volume m (crash_resized m.volume g len))
crash-resize-sound m g len s =
    let change : File → List ℕ = λ f. within (f.header + len) (cut (f.header + len) f.durable) f.durable in
    let keeps : (f : File) → find (generated g) m.volume.files ≡ Some f → Sized f.header f.durable → Sized f.header (change f) =
    λ f e q. sized-within f.header (f.header + len) (cut (f.header + len) f.durable) f.durable (λ h. sized-cut f.header (f.header + len) f.durable (omega arith) h q) q in
    record {
      files = files-changed m.volume m.generations g change s.files keeps;
      handles = s.handles;
      headers = agree-changed m.volume m.generations g change s.files keeps m.handles s.headers;
      few_generations = s.few_generations;
      few_issued = s.few_issued;
    }
