-- A change of one file.
use Rattle.std.specs.Prelude.{◌≡◌, ℕ, MatchOption}
use Rattle.store.specs.declared.file.File.{File}
use Rattle.store.specs.Meaning.{Volume, with_files}
use Rattle.store.specs.Durable.{generated, file_of}
use Rattle.store.specs.Tables.{amended}

-- the file of a generation became what a change makes of it, and all else stayed; where no file has the generation, all stayed
pub record IsChanged (change : File → Unit {0} → File → Type 0) (old : Volume) (g : ℕ) (new : Volume) : Type 0 where
  pub said : MatchOption (file_of old g) (new ≡ old)
      (λ f. (f' : File) × change f tt f' × (new ≡ with_files old (amended (generated g) (λ _. f') old.files)))
