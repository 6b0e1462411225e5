-- Changes of the file of a generation.
use Rattle.std.proofs.Common.{◌≡◌, ℕ, ◌+◌, Bool, true, false, cond, leb, List, [], ◌∷◌, length, Some, None, Option, sym, refl, ap, ◌∙◌}
use Rattle.std.specs.List.{find}
use Rattle.content.specs.Bytes.{limit, within, written}
use Rattle.store.specs.declared.file.File.{File}
use Rattle.store.specs.Meaning.{Volume, with_durable, with_files}
use Rattle.store.specs.Durable.{generated, file_of, durable_written}
use Rattle.store.specs.Held.{kept_within}
use Rattle.store.specs.Tables.{amended}
use Rattle.store.proofs.Finds.{amended-none, same-amended}
use Rattle.memory.specs.Changes.{IsChanged}

-- only the first row that passes is asked for its change
amended-there : {A : Type 0} (p : A → Bool) (g : A → A) (xs : List A) (x y : A) → find p xs ≡ Some x → y ≡ g x → amended p (λ _. y) xs ≡ amended p g xs
amended-there p g [] x y e s = refl
amended-there p g (z ∷ xs) x y e s = go (p z) e (λ k. amended-there p g xs x y k s)
  where
    go : (t : Bool) → cond t (Some z) (find p xs) ≡ Some x → (find p xs ≡ Some x → amended p (λ _. y) xs ≡ amended p g xs)
        → cond t (y ∷ xs) (z ∷ amended p (λ _. y) xs) ≡ cond t (g z ∷ xs) (z ∷ amended p g xs)
    go true k more = let same : z ≡ x = cc in ap (λ w. w ∷ xs) (s ∙ ap g (sym same))
    go false k more = ap (λ zs. z ∷ zs) (more k)

-- a change that does a step to the file does it to the volume
pub changed-by : (R : File → Unit {0} → File → Type 0) (old new : Volume) (g : ℕ) (step : File → File) → IsChanged R old g new
    → ((f f' : File) → R f tt f' → f' ≡ step f) → new ≡ with_files old (amended (generated g) step old.files)
changed-by R old new g step is does = go (file_of old g) refl
  where
    go : (o : Option File) → file_of old g ≡ o → new ≡ with_files old (amended (generated g) step old.files)
    go None e = (rw e at is.said) ∙ ap (with_files old) (sym (amended-none (generated g) step old.files e))
    go (Some f) e =
        let k = rw e at is.said in
        k.2 ∙ ap (with_files old) (amended-there (generated g) step old.files f k.0 e (does f k.0 k.1))

-- a write within the limit, or none
pub kept-within : (v : Volume) (g at : ℕ) (bs : List ℕ)
    → with_files v (amended (generated g) (λ f. with_durable f (within (at + length bs) (written f.durable at bs) f.durable)) v.files) ≡ kept_within v g at bs
kept-within v g at bs = go (leb (at + length bs) limit)
  where
    go : (t : Bool) → with_files v (amended (generated g) (λ f. with_durable f (cond t (written f.durable at bs) f.durable)) v.files) ≡ cond t (durable_written v g at bs) v
    go true = refl
    go false = ap (with_files v) (same-amended (generated g) (λ f. with_durable f f.durable) (λ f. refl) v.files)
