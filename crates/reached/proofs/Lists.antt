-- Facts of each row, and of keys, under a change, a removal and an addition.
use Rattle.std.proofs.Common.{◌≡◌, ℕ, ◌≤◌, Bool, true, false, List, [], ◌∷◌, ◌++◌, map, length, is_some, Some, None, filter, sym, refl, ap, ◌∙◌, subst, arith}
use Rattle.std.specs.List.{AllByRecursion}
use Rattle.std.specs.Str.{bytes_eq}
use Rattle.std.proofs.lemmas.Slice.Eq.{bytes_eq-Decides}
use Rattle.std.proofs.lemmas.Bool.{cond_both}
use Rattle.std.proofs.lemmas.List.Elements.{All-from_recursion, recursion_from_All}
use Rattle.std.proofs.lemmas.List.Folds.{find_at, find-append}
use Rattle.std.proofs.lemmas.List.Sums.{passes_at_first, fails_before_first}
use Rattle.std.proofs.lemmas.Option.{slice_get_within, slice_get-get_or, get_or_from_slice_get}
use Rattle.std.specs.List.{find, position_or_len}
use Rattle.store.specs.Tables.{amended, without}
use Rattle.reached.specs.Sound.{Distinct}

module _ {A : Type 0} (P : A → Type 0) where
  pub all-amended : (p : A → Bool) (f : A → A) (xs : List A) → ((x : A) → find p xs ≡ Some x → P x → P (f x)) → AllByRecursion P xs → AllByRecursion P (amended p f xs)
  all-amended p f [] h a = tt
  all-amended p f (x ∷ xs) h a = go (p x) refl (all-amended p f xs)
    where
      go : (t : Bool) → p x ≡ t → (((y : A) → find p xs ≡ Some y → P y → P (f y)) → AllByRecursion P xs → AllByRecursion P (amended p f xs)) → AllByRecursion P (amended p f (x ∷ xs))
      go true t more = rw t (h x (rw t refl) a.0, a.1)
      go false t more = rw t (a.0, more (λ y e. h y (rw t e)) a.1)

  pub all_without : (p : A → Bool) (xs : List A) → AllByRecursion P xs → AllByRecursion P (without p xs)
  all_without p [] a = tt
  all_without p (x ∷ xs) a = cond_both (p x) xs (x ∷ without p xs) (AllByRecursion P) (λ e. a.1) (λ e. (a.0, all_without p xs a.1))

  pub all_found : (p : A → Bool) (xs : List A) (x : A) → find p xs ≡ Some x → AllByRecursion P xs → P x
  all_found p xs x e a =
      let at = sym (find_at p xs) ∙ e in
      subst P (get_or_from_slice_get xs _ x x at) (All-from_recursion P xs a (position_or_len p xs) x (slice_get_within xs _ x at))

-- what is found passes the test
pub found-passes : {A : Type 0} (p : A → Bool) (xs : List A) (x : A) → find p xs ≡ Some x → p x ≡ true
found-passes p xs x e =
    let i = position_or_len p xs in
    grind (arith, find_at p xs, slice_get_within xs i x, get_or_from_slice_get xs i x x, passes_at_first p xs x)

-- where nothing is found, each fails
pub none_passes : {A : Type 0} (p : A → Bool) (xs : List A) → find p xs ≡ None → AllByRecursion (λ x. p x ≡ false) xs
none_passes p xs e = recursion_from_All _ xs (λ k d l. grind (arith, find_at p xs, slice_get-get_or xs (position_or_len p xs) d, fails_before_first p xs k d))

-- a change that keeps a key keeps all keys
pub keys-amended : {A K : Type 0} (key : A → K) (p : A → Bool) (f : A → A) → ((x : A) → key (f x) ≡ key x) → (xs : List A) → map key (amended p f xs) ≡ map key xs
keys-amended key p f h [] = refl
keys-amended key p f h (x ∷ xs) = grind (arith, h x, keys-amended key p f h xs)

-- keys of what a removal or a filter leaves
module _ {A K : Type 0} (key : A → K) (Q : K → Type 0) where
  keyed-without : (p : A → Bool) (xs : List A) → AllByRecursion Q (map key xs) → AllByRecursion Q (map key (without p xs))
  keyed-without p [] a = tt
  keyed-without p (x ∷ xs) a = cond_both (p x) xs (x ∷ without p xs) (λ ys. AllByRecursion Q (map key ys)) (λ e. a.1) (λ e. (a.0, keyed-without p xs a.1))

  keyed-kept : (p : A → Bool) (xs : List A) → AllByRecursion Q (map key xs) → AllByRecursion Q (map key (filter p xs))
  keyed-kept p [] a = tt
  keyed-kept p (x ∷ xs) a = cond_both (p x) (x ∷ filter p xs) (filter p xs) (λ ys. AllByRecursion Q (map key ys)) (λ e. (a.0, keyed-kept p xs a.1)) (λ e. keyed-kept p xs a.1)

module _ {A K : Type 0} (key : A → K) where
  pub distinct_without : (p : A → Bool) (xs : List A) → Distinct (map key xs) → Distinct (map key (without p xs))
  distinct_without p [] d = tt
  distinct_without p (x ∷ xs) d =
      cond_both (p x) xs (x ∷ without p xs) (λ ys. Distinct (map key ys)) (λ e. d.1) (λ e. (keyed-without key (λ y. key x ≡ y → ⊥) p xs d.0, distinct_without p xs d.1))

  pub distinct-kept : (p : A → Bool) (xs : List A) → Distinct (map key xs) → Distinct (map key (filter p xs))
  distinct-kept p [] d = tt
  distinct-kept p (x ∷ xs) d =
      cond_both (p x) (x ∷ filter p xs) (filter p xs) (λ ys. Distinct (map key ys)) (λ e. (keyed-kept key (λ y. key x ≡ y → ⊥) p xs d.0, distinct-kept p xs d.1)) (λ e. distinct-kept p xs d.1)

  -- one more, whose key is new
  pub distinct_push : (xs : List A) (x : A) → AllByRecursion (λ y. key y ≡ key x → ⊥) xs → Distinct (map key xs) → Distinct (map key (xs ++ (x ∷ [])))
  distinct_push [] x a d = (tt, tt)
  distinct_push (y ∷ ys) x a d = (apart ys a.0 d.0, distinct_push ys x a.1 d.1)
    where
      apart : (zs : List A) → (key y ≡ key x → ⊥) → AllByRecursion (λ k. key y ≡ k → ⊥) (map key zs) → AllByRecursion (λ k. key y ≡ k → ⊥) (map key (zs ++ (x ∷ [])))
      apart [] n b = (n, tt)
      apart (z ∷ zs) n b = (b.0, apart zs n b.1)

  unkeyed : (Q : K → Type 0) (xs : List A) → AllByRecursion Q (map key xs) → AllByRecursion (λ x. Q (key x)) xs
  unkeyed Q [] a = tt
  unkeyed Q (x ∷ xs) a = (a.0, unkeyed Q xs a.1)

  apart_from : (P : A → Type 0) (y x : A) (ys : List A) → y ≡ x → AllByRecursion (λ z. key y ≡ key z → ⊥) ys → AllByRecursion (λ z. key x ≡ key z → P z) ys
  apart_from P y x [] s a = tt
  apart_from P y x (z ∷ zs) s a = ((λ k. absurd (a.0 (ap key s ∙ k))), apart_from P y x zs s a.1)

  -- two of one key are one
  pub distinct-found : (p : A → Bool) (P : A → Type 0) (xs : List A) (x : A) → find p xs ≡ Some x → Distinct (map key xs) → P x → AllByRecursion (λ y. key x ≡ key y → P y) xs
  distinct-found p P [] x e d q = tt
  distinct-found p P (y ∷ ys) x e d q = go (p y) refl (distinct-found p P ys x)
    where
      go : (t : Bool) → p y ≡ t → (find p ys ≡ Some x → Distinct (map key ys) → P x → AllByRecursion (λ z. key x ≡ key z → P z) ys) → AllByRecursion (λ z. key x ≡ key z → P z) (y ∷ ys)
      go true t more =
          let k : Some y ≡ Some x = rw t at e in
          let s : y ≡ x = cc in
          ((λ _. subst P (sym s) q), apart_from P y x ys s (unkeyed (λ k. key y ≡ k → ⊥) ys d.0))
      go false t more =
          let here : find p ys ≡ Some x = rw t at e in
          let apart : key y ≡ key x → ⊥ = all_found (λ z. key y ≡ key z → ⊥) p ys x here (unkeyed (λ k. key y ≡ k → ⊥) ys d.0) in
          ((λ k. absurd (apart (sym k))), more here d.1 q)

pub length-amended : {A : Type 0} (p : A → Bool) (f : A → A) (xs : List A) → length (amended p f xs) ≡ length xs
length-amended p f [] = refl
length-amended p f (x ∷ xs) = grind (arith, length-amended p f xs)

pub length_without : {A : Type 0} (p : A → Bool) (xs : List A) → length (without p xs) ≤ length xs
length_without p [] = omega arith
length_without p (x ∷ xs) = grind (arith, length_without p xs)

-- what a filter keeps passes its test
pub all-kept : {A : Type 0} (P Q : A → Type 0) (p : A → Bool) → ((x : A) → p x ≡ true → P x → Q x) → (xs : List A) → AllByRecursion P xs → AllByRecursion Q (filter p xs)
all-kept P Q p h [] a = tt
all-kept P Q p h (x ∷ xs) a =
    cond_both (p x) (x ∷ filter p xs) (filter p xs) (AllByRecursion Q) (λ e. (h x e a.0, all-kept P Q p h xs a.1)) (λ e. all-kept P Q p h xs a.1)

-- what is found is still found once something else is gone
pub found-without : {A : Type 0} (a b : A → Bool) (xs : List A) → ((x : A) → a x ≡ true → b x ≡ false) → is_some (find a xs) ≡ true → is_some (find a (without b xs)) ≡ true
found-without a b [] h e = e
found-without a b (x ∷ xs) h e = grind (arith, h x, found-without a b xs h)

pub same-other : (r q p : List ℕ) → bytes_eq r q ≡ true → bytes_eq q p ≡ false → bytes_eq r p ≡ false
same-other r q p e h = ap (λ x. bytes_eq x p) ((bytes_eq-Decides r q).0 e) ∙ h

-- one more at the end is found, and what was found still is
pub found-push : {A : Type 0} (a : A → Bool) (xs : List A) (x : A) → a x ≡ true → is_some (find a (xs ++ (x ∷ []))) ≡ true
found-push a xs x e = grind (arith, find-append a xs (x ∷ []))

pub found-more : {A : Type 0} (a : A → Bool) (xs ys : List A) → is_some (find a xs) ≡ true → is_some (find a (xs ++ ys)) ≡ true
found-more a xs ys e = grind (arith, find-append a xs ys)
