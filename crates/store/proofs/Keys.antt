-- A lookup by one test, after a change, a removal or an addition by another.
use Rattle.std.proofs.Common.{◌≡◌, ℕ, Bool, true, false, cond, List, [], ◌∷◌, ◌++◌, Some, None, filter, sym, refl, ap, ◌∙◌, arith}
use Rattle.std.specs.Option.{option_map}
use Rattle.std.proofs.lemmas.Bool.{cond-true, cond-false, both_ways}
use Rattle.std.specs.List.{find}
use Rattle.store.specs.Tables.{amended, without}

module _ {A : Type 0} (p : A → Bool) where
  found_here : (x : A) (xs : List A) → p x ≡ true → find p (x ∷ xs) ≡ Some x
  found_here x xs e = cond-true (p x) (Some x) (find p xs) e

  found-past : (x : A) (xs : List A) → p x ≡ false → find p (x ∷ xs) ≡ find p xs
  found-past x xs e = cond-false (p x) (Some x) (find p xs) e

  -- behind a row that both have
  found-both : (x : A) (xs ys : List A) → find p xs ≡ find p ys → find p (x ∷ xs) ≡ find p (x ∷ ys)
  found-both x xs ys e = ap (λ o. cond (p x) (Some x) o) e

  -- the row that passes is changed, and passes still
  pub found-amended : (f : A → A) → ((x : A) → p (f x) ≡ p x) → (xs : List A) → find p (amended p f xs) ≡ option_map f (find p xs)
  found-amended f h [] = refl
  found-amended f h (x ∷ xs) = go (p x) refl (found-amended f h xs)
    where
      go : (t : Bool) → p x ≡ t → find p (amended p f xs) ≡ option_map f (find p xs)
          → find p (cond t (f x ∷ xs) (x ∷ amended p f xs)) ≡ option_map f (cond t (Some x) (find p xs))
      go true e more = found_here (f x) xs (h x ∙ e)
      go false e more = found-past x (amended p f xs) e ∙ more

  -- a row that fails is changed, and fails still
  pub found-amended-other : (q : A → Bool) (f : A → A) → ((x : A) → q x ≡ true → p x ≡ false) → ((x : A) → p (f x) ≡ p x) → (xs : List A)
      → find p (amended q f xs) ≡ find p xs
  found-amended-other q f n h [] = refl
  found-amended-other q f n h (x ∷ xs) = go (q x) refl (found-amended-other q f n h xs)
    where
      go : (t : Bool) → q x ≡ t → find p (amended q f xs) ≡ find p xs → find p (cond t (f x ∷ xs) (x ∷ amended q f xs)) ≡ find p (x ∷ xs)
      go true e more = found-past (f x) xs (h x ∙ n x e) ∙ sym (found-past x xs (n x e))
      go false e more = found-both x (amended q f xs) xs more

  -- the first row of another test is gone, which fails this one
  pub found-removed : (q : A → Bool) (xs : List A) (y : A) → find q xs ≡ Some y → p y ≡ false → find p (without q xs) ≡ find p xs
  found-removed q [] y e n = refl
  found-removed q (x ∷ xs) y e n = go (q x) e (λ k. found-removed q xs y k n)
    where
      go : (t : Bool) → cond t (Some x) (find q xs) ≡ Some y → (find q xs ≡ Some y → find p (without q xs) ≡ find p xs)
          → find p (cond t xs (x ∷ without q xs)) ≡ find p (x ∷ xs)
      go true k more = let s : x ≡ y = cc in sym (found-past x xs (ap p s ∙ n))
      go false k more = found-both x (without q xs) xs (more k)

  -- the first row of another test is gone, whose rows all fail this one
  pub found-without-other : (q : A → Bool) → ((x : A) → q x ≡ true → p x ≡ false) → (xs : List A) → find p (without q xs) ≡ find p xs
  found-without-other q n [] = refl
  found-without-other q n (x ∷ xs) = go (q x) refl (found-without-other q n xs)
    where
      go : (t : Bool) → q x ≡ t → find p (without q xs) ≡ find p xs → find p (cond t xs (x ∷ without q xs)) ≡ find p (x ∷ xs)
      go true e more = sym (found-past x xs (n x e))
      go false e more = found-both x (without q xs) xs more

  pub found-without-none : (q : A → Bool) (xs : List A) → find p xs ≡ None → find p (without q xs) ≡ None
  found-without-none q [] e = refl
  found-without-none q (x ∷ xs) e = go (p x) (q x) refl (found-without-none q xs)
    where
      go : (s t : Bool) → p x ≡ s → (find p xs ≡ None → find p (without q xs) ≡ None) → find p (cond t xs (x ∷ without q xs)) ≡ None
      go true t a more = absurd (let f : Some x ≡ None = sym (found_here x xs a) ∙ e in let z : ◌≡◌ {A = ℕ} 0 1 = cc in omega arith)
      go false true a more = sym (found-past x xs a) ∙ e
      go false false a more = found-past x (without q xs) a ∙ more (sym (found-past x xs a) ∙ e)

  -- rows that fail another test are gone
  pub found-kept : (q : A → Bool) (xs : List A) (y : A) → find p xs ≡ Some y → q y ≡ true → find p (filter q xs) ≡ Some y
  found-kept q [] y e k = e
  found-kept q (x ∷ xs) y e k = go (p x) (q x) refl refl (λ f. found-kept q xs y f k)
    where
      go : (s t : Bool) → p x ≡ s → q x ≡ t → (find p xs ≡ Some y → find p (filter q xs) ≡ Some y) → find p (cond t (x ∷ filter q xs) (filter q xs)) ≡ Some y
      go true true a b more = found_here x (filter q xs) a ∙ sym (found_here x xs a) ∙ e
      go true false a b more =
          let f : Some x ≡ Some y = sym (found_here x xs a) ∙ e in
          let s : x ≡ y = cc in
          absurd (both_ways (q y) (ap q (sym s) ∙ b) k)
      go false true a b more = found-past x (filter q xs) a ∙ more (sym (found-past x xs a) ∙ e)
      go false false a b more = more (sym (found-past x xs a) ∙ e)

  pub found-kept-none : (q : A → Bool) (xs : List A) → find p xs ≡ None → find p (filter q xs) ≡ None
  found-kept-none q [] e = refl
  found-kept-none q (x ∷ xs) e = go (p x) (q x) refl (found-kept-none q xs)
    where
      go : (s t : Bool) → p x ≡ s → (find p xs ≡ None → find p (filter q xs) ≡ None) → find p (cond t (x ∷ filter q xs) (filter q xs)) ≡ None
      go true t a more = absurd (let f : Some x ≡ None = sym (found_here x xs a) ∙ e in let z : ◌≡◌ {A = ℕ} 0 1 = cc in omega arith)
      go false true a more = found-past x (filter q xs) a ∙ more (sym (found-past x xs a) ∙ e)
      go false false a more = more (sym (found-past x xs a) ∙ e)

  -- one row more at the end
  pub found_push_other : (xs : List A) (y : A) → p y ≡ false → find p (xs ++ (y ∷ [])) ≡ find p xs
  found_push_other [] y n = found-past y [] n
  found_push_other (x ∷ xs) y n = found-both x (xs ++ (y ∷ [])) xs (found_push_other xs y n)

  pub found-push-same : (xs : List A) (y x : A) → find p xs ≡ Some x → find p (xs ++ (y ∷ [])) ≡ Some x
  found-push-same [] y x e = absurd (let z : ◌≡◌ {A = ℕ} 0 1 = cc in omega arith)
  found-push-same (z ∷ xs) y x e = go (p z) e (found-push-same xs y x)
    where
      go : (t : Bool) → cond t (Some z) (find p xs) ≡ Some x → (find p xs ≡ Some x → find p (xs ++ (y ∷ [])) ≡ Some x) → cond t (Some z) (find p (xs ++ (y ∷ []))) ≡ Some x
      go true f more = f
      go false f more = more f

  pub found-push-new : (xs : List A) (y : A) → find p xs ≡ None → p y ≡ true → find p (xs ++ (y ∷ [])) ≡ Some y
  found-push-new [] y e k = found_here y [] k
  found-push-new (x ∷ xs) y e k = go (p x) refl (λ f. found-push-new xs y f k)
    where
      go : (t : Bool) → p x ≡ t → (find p xs ≡ None → find p (xs ++ (y ∷ [])) ≡ Some y) → find p (x ∷ (xs ++ (y ∷ []))) ≡ Some y
      go true a more = absurd (let f : Some x ≡ None = sym (found_here x xs a) ∙ e in let z : ◌≡◌ {A = ℕ} 0 1 = cc in omega arith)
      go false a more = found-past x (xs ++ (y ∷ [])) a ∙ more (sym (found-past x xs a) ∙ e)
