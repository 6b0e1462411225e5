-- What the place of the first row that passes says.
use Rattle.std.proofs.Common.{◌≡◌, ℕ, suc, ◌+◌, ◌<◌, ◌≤◌, Bool, true, false, ltb, List, [], ◌∷◌, length, get_or, set, is_some, Some, None, Option, sym, refl, ap, ◌∙◌, arith}
use Rattle.std.specs.List.{remove, find, position_or_len, position}
use Rattle.std.proofs.lemmas.Bool.{ltb-true, ltb-false, cond-true, cond-false}
use Rattle.store.specs.Tables.{amended, without}

module _ {A : Type 0} (p : A → Bool) where
  abbrev Stands : List A → Type 0
  Stands xs = position_or_len p xs < length xs

  find-first : (xs : List A) (d : A) → Stands xs → find p xs ≡ Some (get_or xs (position_or_len p xs) d)
  find-first [] d h = absurd (omega arith)
  find-first (x ∷ xs) d h = go (p x) refl (find-first xs d)
    where
      go : (t : Bool) → p x ≡ t → (Stands xs → find p xs ≡ Some (get_or xs (position_or_len p xs) d)) → find p (x ∷ xs) ≡ Some (get_or (x ∷ xs) (position_or_len p (x ∷ xs)) d)
      go true e more = rw e refl
      go false e more = let o : 1 + position_or_len p xs ≡ suc (position_or_len p xs) = omega arith in rw (e, o) (more (let l : suc (position_or_len p xs) < suc (length xs) = rw (e, o) at h in omega arith))

  amended-first : (g : A → A) (xs : List A) (d : A) → Stands xs → amended p g xs ≡ set xs (position_or_len p xs) (g (get_or xs (position_or_len p xs) d))
  amended-first g [] d h = absurd (omega arith)
  amended-first g (x ∷ xs) d h = go (p x) refl (amended-first g xs d)
    where
      go : (t : Bool) → p x ≡ t → (Stands xs → amended p g xs ≡ set xs (position_or_len p xs) (g (get_or xs (position_or_len p xs) d)))
          → amended p g (x ∷ xs) ≡ set (x ∷ xs) (position_or_len p (x ∷ xs)) (g (get_or (x ∷ xs) (position_or_len p (x ∷ xs)) d))
      go true e more = rw e refl
      go false e more = let o : 1 + position_or_len p xs ≡ suc (position_or_len p xs) = omega arith in rw (e, o) (ap (λ zs. x ∷ zs) (more (let l : suc (position_or_len p xs) < suc (length xs) = rw (e, o) at h in omega arith)))

  without-first : (xs : List A) → Stands xs → without p xs ≡ remove xs (position_or_len p xs)
  without-first [] h = absurd (omega arith)
  without-first (x ∷ xs) h = go (p x) refl (without-first xs)
    where
      go : (t : Bool) → p x ≡ t → (Stands xs → without p xs ≡ remove xs (position_or_len p xs)) → without p (x ∷ xs) ≡ remove (x ∷ xs) (position_or_len p (x ∷ xs))
      go true e more = rw e refl
      go false e more = let o : 1 + position_or_len p xs ≡ suc (position_or_len p xs) = omega arith in rw (e, o) (ap (λ zs. x ∷ zs) (more (let l : suc (position_or_len p xs) < suc (length xs) = rw (e, o) at h in omega arith)))

  find-none : (xs : List A) → length xs ≤ position_or_len p xs → find p xs ≡ None
  find-none [] h = refl
  find-none (x ∷ xs) h = go (p x) refl (find-none xs)
    where
      go : (t : Bool) → p x ≡ t → (length xs ≤ position_or_len p xs → find p xs ≡ None) → find p (x ∷ xs) ≡ None
      go true e more = absurd (let l : suc (length xs) ≤ 0 = rw e at h in omega arith)
      go false e more = let o : 1 + position_or_len p xs ≡ suc (position_or_len p xs) = omega arith in rw e (more (let l : suc (length xs) ≤ suc (position_or_len p xs) = rw (e, o) at h in omega arith))

  -- what the place i of the first row that passes says; std's `position-Some` says nothing of a change or a removal there
  pub record Found (xs : List A) (i : ℕ) : Type 0 where
    pub inside : i < length xs
    pub it : (d : A) → find p xs ≡ Some (get_or xs i d)
    pub change : (g : A → A) (d : A) → amended p g xs ≡ set xs i (g (get_or xs i d))
    pub removal : without p xs ≡ remove xs i

  pub position_some : (xs : List A) (i : ℕ) → Some i ≡ position p xs → Found xs i
  position_some xs i h = go (ltb (position_or_len p xs) (length xs)) refl
    where
      go : (t : Bool) → ltb (position_or_len p xs) (length xs) ≡ t → Found xs i
      go true e =
          let at : i ≡ position_or_len p xs = let k : Some i ≡ Some (position_or_len p xs) = h ∙ cond-true _ _ _ e in cc in
          let f : Stands xs = ltb-true (position_or_len p xs) (length xs) e in
          rw at (record {
            inside = f;
            it = λ d. find-first xs d f;
            change = λ g d. amended-first g xs d f;
            removal = without-first xs f;
          })
      go false e = absurd (let k : Some i ≡ None = h ∙ cond-false _ _ _ e in let z : ◌≡◌ {A = ℕ} 0 1 = cc in omega arith)

  pub position-none : (xs : List A) → None ≡ position p xs → find p xs ≡ None
  position-none xs h = go (ltb (position_or_len p xs) (length xs)) refl
    where
      go : (t : Bool) → ltb (position_or_len p xs) (length xs) ≡ t → find p xs ≡ None
      go true e = absurd (let k : None ≡ Some (position_or_len p xs) = h ∙ cond-true _ _ _ e in let z : ◌≡◌ {A = ℕ} 0 1 = cc in omega arith)
      go false e = find-none xs (ltb-false (position_or_len p xs) (length xs) e)

-- a place is there where a row is
pub position_found : {A : Type 0} (p : A → Bool) (xs : List A) → is_some (position p xs) ≡ is_some (find p xs)
position_found p [] = refl
position_found p (x ∷ xs) = go (position p (x ∷ xs)) refl
  where
    go : (o : Option ℕ) → position p (x ∷ xs) ≡ o → is_some (position p (x ∷ xs)) ≡ is_some (find p (x ∷ xs))
    go None e = ap is_some e ∙ sym (ap is_some (position-none p (x ∷ xs) (sym e)))
    go (Some i) e = ap is_some e ∙ sym (ap is_some ((position_some p (x ∷ xs) i (sym e)).it x))

-- where no row passes, a change or a removal leaves all as it is
module _ {A : Type 0} (p : A → Bool) where
  pub amended-none : (g : A → A) (xs : List A) → find p xs ≡ None → amended p g xs ≡ xs
  amended-none g [] h = refl
  amended-none g (x ∷ xs) h = go (p x) refl (amended-none g xs)
    where
      go : (t : Bool) → p x ≡ t → (find p xs ≡ None → amended p g xs ≡ xs) → amended p g (x ∷ xs) ≡ x ∷ xs
      go true e more = absurd (let k : Some x ≡ None = rw e at h in let z : ◌≡◌ {A = ℕ} 0 1 = cc in omega arith)
      go false e more = rw e (ap (λ zs. x ∷ zs) (more (rw e at h)))

  pub without-none : (xs : List A) → find p xs ≡ None → without p xs ≡ xs
  without-none [] h = refl
  without-none (x ∷ xs) h = go (p x) refl (without-none xs)
    where
      go : (t : Bool) → p x ≡ t → (find p xs ≡ None → without p xs ≡ xs) → without p (x ∷ xs) ≡ x ∷ xs
      go true e more = absurd (let k : Some x ≡ None = rw e at h in let z : ◌≡◌ {A = ℕ} 0 1 = cc in omega arith)
      go false e more = rw e (ap (λ zs. x ∷ zs) (more (rw e at h)))

-- a change that changes no row
pub same-amended : {A : Type 0} (p : A → Bool) (g : A → A) → ((x : A) → g x ≡ x) → (xs : List A) → amended p g xs ≡ xs
same-amended p g h [] = refl
same-amended p g h (x ∷ xs) = go (p x) refl (same-amended p g h xs)
  where
    go : (t : Bool) → p x ≡ t → amended p g xs ≡ xs → amended p g (x ∷ xs) ≡ x ∷ xs
    go true e more = rw e (ap (λ z. z ∷ xs) (h x))
    go false e more = rw e (ap (λ zs. x ∷ zs) more)

-- the same facts one by one, each from the place
module _ {A : Type 0} (p : A → Bool) (xs : List A) where
  pub found_at : (i : ℕ) (d : A) → position p xs ≡ Some i → find p xs ≡ Some (get_or xs i d)
  found_at i d h = (position_some p xs i (sym h)).it d

  pub place_inside : (i : ℕ) → position p xs ≡ Some i → i < length xs
  place_inside i h = (position_some p xs i (sym h)).inside

  pub without_at : (i : ℕ) → position p xs ≡ Some i → without p xs ≡ remove xs i
  without_at i h = (position_some p xs i (sym h)).removal

  pub amended_at : (g : A → A) (i : ℕ) (d : A) → position p xs ≡ Some i → amended p g xs ≡ set xs i (g (get_or xs i d))
  amended_at g i d h = (position_some p xs i (sym h)).change g d

  pub found_none : position p xs ≡ None → find p xs ≡ None
  found_none h = position-none p xs (sym h)

  pub without_none : position p xs ≡ None → without p xs ≡ xs
  without_none h = without-none p xs (found_none h)

  pub amended_none : (g : A → A) → position p xs ≡ None → amended p g xs ≡ xs
  amended_none g h = amended-none p g xs (found_none h)
