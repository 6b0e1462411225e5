-- One file among the others: by its generation, after a change, a removal or a making.
use Rattle.std.proofs.Common.{◌≡◌, ℕ, Bool, true, false, cond, eqb, List, [], ◌∷◌, map, Some, None, filter, sym, refl, ap, ◌∙◌, arith, ◌<◌}
use Rattle.std.proofs.lemmas.Bool.Decides.{nat_tests}
use Rattle.reached.proofs.Lists.{found-passes}
use Rattle.std.specs.Option.{option_map}
use Rattle.std.specs.List.{AllByRecursion}
use Rattle.std.proofs.lemmas.Bool.{eqb-true, ne_eqb, cond-false}
use Rattle.std.specs.List.{find}
use Rattle.store.specs.Tables.{amended, without}
use Rattle.store.proofs.Keys.{found-amended, found-amended-other}
use Rattle.store.specs.declared.file.File.{File}
use Rattle.store.specs.Meaning.{Volume, with_durable, with_files}
use Rattle.store.specs.Durable.{generated, file_of}
use Rattle.reached.specs.Sound.{Distinct}

-- other durable bytes for the file of a generation
abbrev pub changed_in : Volume → ℕ → (File → List ℕ) → Volume
changed_in v g a = with_files v (amended (generated g) (λ f. with_durable f (a f)) v.files)

pub changed-same : (v : Volume) (g : ℕ) (a : File → List ℕ) → file_of (changed_in v g a) g ≡ option_map (λ f. with_durable f (a f)) (file_of v g)
changed-same v g a = found-amended (generated g) (λ f. with_durable f (a f)) (λ f. refl) v.files

pub changed-other : (v : Volume) (g k : ℕ) (a : File → List ℕ) → (g ≡ k → ⊥) → file_of (changed_in v g a) k ≡ file_of v k
changed-other v g k a n =
    found-amended-other (generated k) (generated g) (λ f. with_durable f (a f))
    (λ f e. ne_eqb f.generation k (λ q. n (sym (eqb-true f.generation g e) ∙ q))) (λ f. refl) v.files

-- a file that is found has its generation
pub file-generation : (v : Volume) (g : ℕ) (f : File) → file_of v g ≡ Some f → f.generation ≡ g
file-generation v g f e = eqb-true f.generation g (found-passes (generated g) v.files f e)

-- nothing is found by a number that all rows are below
pub unissued : {A : Type 0} (key : A → ℕ) (k : ℕ) (xs : List A) → AllByRecursion (λ x. key x < k) xs → find (λ x. eqb (key x) k) xs ≡ None
unissued key k [] a = refl
unissued key k (x ∷ xs) a = let l = a.0 in rw (ne_eqb (key x) k (omega arith)) (unissued key k xs a.1)

-- Keys that are distinct.
module _ {A : Type 0} (key : A → ℕ) where
  abbrev pub keyed : ℕ → A → Bool
  keyed k x = eqb (key x) k

  pub none-keyed : (k : ℕ) (xs : List A) → AllByRecursion (λ y. k ≡ y → ⊥) (map key xs) → find (keyed k) xs ≡ None
  none-keyed k [] a = refl
  none-keyed k (x ∷ xs) a = grind (arith, nat_tests, none-keyed k xs a.1, a.0)

  -- a key that differs from all others differs from one that is found
  differs : (k : ℕ) (q : A → Bool) (xs : List A) (y : A) → find q xs ≡ Some y → AllByRecursion (λ x. k ≡ x → ⊥) (map key xs) → k ≡ key y → ⊥
  differs k q [] y e a s = cc
  differs k q (x ∷ xs) y e a s = grind (arith, differs k q xs y, a.0)

  -- once the row of a key is gone, no row has that key
  pub gone-without : (q : A → Bool) (xs : List A) (y : A) → find q xs ≡ Some y → Distinct (map key xs) → find (keyed (key y)) (without q xs) ≡ None
  gone-without q [] y e d = refl
  gone-without q (x ∷ xs) y e d = grind (arith, nat_tests, gone-without q xs y, differs (key x) q xs y, none-keyed (key x) xs d.0)

  pub gone-kept : (q : A → Bool) (k : ℕ) (xs : List A) (y : A) → find (keyed k) xs ≡ Some y → q y ≡ false → Distinct (map key xs) → find (keyed k) (filter q xs) ≡ None
  gone-kept q k [] y e n d = refl
  gone-kept q k (x ∷ xs) y e n d = go (eqb (key x) k) (q x) refl refl e (λ f. gone-kept q k xs y f n d.1)
    where
      all-kept : (xs : List A) → AllByRecursion (λ z. key x ≡ z → ⊥) (map key xs) → find (keyed (key x)) (filter q xs) ≡ None
      all-kept [] a = refl
      all-kept (z ∷ zs) a = two (q z) (all-kept zs a.1)
        where
          two : (t : Bool) → find (keyed (key x)) (filter q zs) ≡ None → find (keyed (key x)) (cond t (z ∷ filter q zs) (filter q zs)) ≡ None
          two true more = cond-false (eqb (key z) (key x)) (Some z) _ (ne_eqb (key z) (key x) (λ s. a.0 (sym s))) ∙ more
          two false more = more

      go : (s t : Bool) → eqb (key x) k ≡ s → q x ≡ t → cond s (Some x) (find (keyed k) xs) ≡ Some y → (find (keyed k) xs ≡ Some y → find (keyed k) (filter q xs) ≡ None)
          → find (keyed k) (cond t (x ∷ filter q xs) (filter q xs)) ≡ None
      go true true a b e more =
          let z : x ≡ y = cc in let f : true ≡ false = sym b ∙ ap q z ∙ n in cc
      go true false a b e more = ap (λ j. find (keyed j) (filter q xs)) (sym (eqb-true (key x) k a)) ∙ all-kept xs d.0
      go false true a b e more = cond-false (eqb (key x) k) (Some x) _ a ∙ more e
      go false false a b e more = more e
