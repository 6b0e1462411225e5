-- A name that goes through others in order and takes the place of what it comes before.
use Rattle.std.proofs.Common.{◌≡◌, ℕ, suc, ◌+◌, ◌<◌, ◌≤◌, Bool, true, false, List, [], ◌∷◌, ◌++◌, length, get_or, take, drop, set, sym, refl, ap, ◌∙◌, arith}
use Rattle.std.proofs.lemmas.List.{drop_more, drop_all, take_all, take_more, take_more_set, drop-set-lt, append_assoc, set-get_or}
use Rattle.name.specs.Names.{before}
use Rattle.name.specs.Listings.{placed}

-- what is left of placing n once the first i names are passed
abbrev pub passing : List (List ℕ) → ℕ → List ℕ → List (List ℕ)
passing ms i n = take i ms ++ placed n (drop i ms)

module _ (ms : List (List ℕ)) (i : ℕ) (h : i < length ms) (m n : List ℕ) (is : m ≡ get_or ms i m) where
  first-is : drop i ms ≡ m ∷ drop (i + 1) ms
  first-is = drop_more ms i m h ∙ ap (λ x. x ∷ drop (i + 1) ms) (sym is)

  passed-by : before n m ≡ false → passing ms (i + 1) n ≡ passing ms i n
  passed-by t =
      let e : placed n (drop i ms) ≡ m ∷ placed n (drop (i + 1) ms) = rw (first-is, t) refl in
      let f : take (i + 1) ms ≡ take i ms ++ (m ∷ []) = take_more ms i m h ∙ ap (λ x. take i ms ++ (x ∷ [])) (sym is) in
      sym (ap (λ zs. take i ms ++ zs) e ∙ sym (append_assoc (take i ms) (m ∷ []) (placed n (drop (i + 1) ms))) ∙ ap (λ zs. zs ++ placed n (drop (i + 1) ms)) (sym f))

  taken-by : before n m ≡ true → passing (set ms i n) (i + 1) m ≡ passing ms i n
  taken-by t =
      let e : placed n (drop i ms) ≡ n ∷ placed m (drop (i + 1) ms) = rw (first-is, t) refl in
      let f : take (i + 1) (set ms i n) ≡ take i ms ++ (n ∷ []) = take_more_set ms i n h in
      let g : drop (i + 1) (set ms i n) ≡ drop (i + 1) ms = drop-set-lt (i + 1) ms i n (omega arith) in
      sym (ap (λ zs. take i ms ++ zs) e ∙ sym (append_assoc (take i ms) (n ∷ []) (placed m (drop (i + 1) ms))) ∙ rw (f, g) refl)

-- one turn: the name in hand and a name of the list change places, or both stay
module _ (ms ms' : List (List ℕ)) (i : ℕ) (h : i < length ms) (m n last : List ℕ) (is : m ≡ get_or ms i m) where
  pub turn-takes : before n (get_or ms i m) ≡ true → last ≡ get_or ms i m → ms' ≡ set ms i n → passing ms' (i + 1) last ≡ passing ms i n
  turn-takes t e f = rw (e ∙ sym is, f) (taken-by ms i h m n is (ap (before n) is ∙ t))

  pub turn-passes : before n (get_or ms i m) ≡ false → last ≡ n → ms' ≡ set ms i (get_or ms i m) → passing ms' (i + 1) last ≡ passing ms i n
  turn-passes t e f =
      let same : ms' ≡ ms = f ∙ set-get_or ms i m in
      rw (e, same) (passed-by ms i h m n is (ap (before n) is ∙ t))

pub pass-done : (ms : List (List ℕ)) (i : ℕ) (n : List ℕ) → length ms ≤ i → ms ++ (n ∷ []) ≡ passing ms i n
pass-done ms i n h = rw (take_all i ms h, drop_all i ms h) refl

pub length_placed : (n : List ℕ) (ms : List (List ℕ)) → length (placed n ms) ≡ suc (length ms)
length_placed n [] = refl
length_placed n (m ∷ ms) = go (before n m) refl (length_placed m ms) (length_placed n ms)
  where
    go : (t : Bool) → before n m ≡ t → length (placed m ms) ≡ suc (length ms) → length (placed n ms) ≡ suc (length ms) → length (placed n (m ∷ ms)) ≡ suc (length (m ∷ ms))
    go true e moved stays = rw e (ap suc moved)
    go false e moved stays = rw e (ap suc stays)
