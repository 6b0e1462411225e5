-- Placing names one after another sorts them.
use Rattle.std.proofs.Common.{◌≡◌, ℕ, true, false, List, [], ◌∷◌, ◌++◌, map, filter, sym, refl, ap, ◌∙◌, subst, arith}
use Rattle.std.specs.List.{AllByRecursion}
use Rattle.std.specs.List.Sorted.{IsPermutation}
use Rattle.std.proofs.lemmas.Slice.Eq.{bytes_eq-Decides}
use Rattle.std.proofs.ByRecursion.{All-weaker}
use Rattle.std.proofs.lemmas.List.{append-nil}
use Rattle.std.proofs.lemmas.List.Sorted.{IsPermutation-refl, IsPermutation-sym, IsPermutation-cons, IsPermutation-swap, IsPermutation-trans, IsPermutation-middle, IsPermutation-append_right}
use Rattle.std.proofs.lemmas.Bool.{cond_both}
use Rattle.std.proofs.lemmas.Bool.Decides.{nat_tests}
use Rattle.name.specs.Names.{before}
use Rattle.name.specs.Listings.{placed, placed_all, sorted}
use Rattle.store.specs.declared.file.File.{File}
use Rattle.store.specs.Durable.{in_partition}
use Rattle.reached.specs.Calls.{reached}
use Rattle.reached.specs.Sound.{Distinct, name_of}
use Rattle.reached.specs.Scans.{Ascending, names_in, ScansAscend}
use Rattle.reached.proofs.Runs.{sound}

-- the order of names
before_self : (xs : List ℕ) → before xs xs ≡ false
before_self [] = refl
before_self (x ∷ xs) = grind (arith, nat_tests, before_self xs)

before-trans : (xs ys zs : List ℕ) → before xs ys ≡ true → before ys zs ≡ true → before xs zs ≡ true
before-trans [] [] zs a b = cc
before-trans [] (y ∷ ys) [] a b = cc
before-trans [] (y ∷ ys) (z ∷ zs) a b = refl
before-trans (x ∷ xs) [] zs a b = cc
before-trans (x ∷ xs) (y ∷ ys) [] a b = cc
before-trans (x ∷ xs) (y ∷ ys) (z ∷ zs) a b = grind (arith, nat_tests, before-trans xs ys zs)

before-total : (xs ys : List ℕ) → before xs ys ≡ false → (xs ≡ ys → ⊥) → before ys xs ≡ true
before-total [] [] a n = absurd (n refl)
before-total [] (y ∷ ys) a n = cc
before-total (x ∷ xs) [] a n = refl
before-total (x ∷ xs) (y ∷ ys) a n = grind (arith, nat_tests, before-total xs ys)

other : (n m : List ℕ) → before n m ≡ true → n ≡ m → ⊥
other n m a e = cc (before_self n)

all_placed : (P : List ℕ → Type 0) (n : List ℕ) (ms : List (List ℕ)) → P n → AllByRecursion P ms → AllByRecursion P (placed n ms)
all_placed P n [] p a = (p, tt)
all_placed P n (m ∷ ms) p a =
    cond_both (before n m) (n ∷ placed m ms) (m ∷ placed n ms) (AllByRecursion P) (λ e. (p, all_placed P m ms a.0 a.1)) (λ e. (a.0, all_placed P n ms p a.1))

placed-ascends : (n : List ℕ) (ms : List (List ℕ)) → AllByRecursion (λ m. n ≡ m → ⊥) ms → Ascending ms → Ascending (placed n ms)
placed-ascends n [] d a = (tt, tt)
placed-ascends n (m ∷ ms) d a =
    cond_both (before n m) (n ∷ placed m ms) (m ∷ placed n ms) Ascending
    (λ e. (all_placed (λ y. before n y ≡ true) m ms e (All-weaker _ _ (λ y b. before-trans n m y e b) ms a.0), placed-ascends m ms (All-weaker _ _ (λ y b. other m y b) ms a.0) a.1))
    (λ e. (all_placed (λ y. before m y ≡ true) n ms (before-total n m e d.0) a.0, placed-ascends n ms d.1 a.1))

abbrev Apart : List (List ℕ) → List (List ℕ) → Type 0
Apart ns ms = AllByRecursion (λ n. AllByRecursion (λ m. n ≡ m → ⊥) ms) ns

apart-placed : (n : List ℕ) (ns ms : List (List ℕ)) → AllByRecursion (λ k. n ≡ k → ⊥) ns → Apart ns ms → Apart ns (placed n ms)
apart-placed n [] ms d a = tt
apart-placed n (k ∷ ns) ms d a = (all_placed (λ m. k ≡ m → ⊥) n ms (λ e. d.0 (sym e)) a.0, apart-placed n ns ms d.1 a.1)

all-ascend : (ns ms : List (List ℕ)) → Distinct ns → Apart ns ms → Ascending ms → Ascending (placed_all ns ms)
all-ascend [] ms d a s = s
all-ascend (n ∷ ns) ms d a s = all-ascend ns (placed n ms) d.1 (apart-placed n ns ms d.0 a.1) (placed-ascends n ms a.0 s)

-- nothing is lost and nothing is added
placed-shuffles : (n : List ℕ) (ms : List (List ℕ)) → IsPermutation (n ∷ ms) (placed n ms)
placed-shuffles n [] = IsPermutation-refl (n ∷ [])
placed-shuffles n (m ∷ ms) =
    cond_both (before n m) (n ∷ placed m ms) (m ∷ placed n ms) (IsPermutation (n ∷ (m ∷ ms)))
    (λ e. IsPermutation-cons n (m ∷ ms) (placed m ms) (placed-shuffles m ms))
    (λ e. IsPermutation-trans (n ∷ (m ∷ ms)) (m ∷ (n ∷ ms)) (m ∷ placed n ms)
    (IsPermutation-swap (n ∷ (m ∷ ms)) (m ∷ (n ∷ ms)) 0 1 (omega arith) (omega arith) refl)
    (IsPermutation-cons m (n ∷ ms) (placed n ms) (placed-shuffles n ms)))

all-shuffle : (ns ms : List (List ℕ)) → IsPermutation (ns ++ ms) (placed_all ns ms)
all-shuffle [] ms = IsPermutation-refl ms
all-shuffle (n ∷ ns) ms =
    IsPermutation-trans _ _ _ (IsPermutation-sym _ _ (IsPermutation-middle ns n ms))
    (IsPermutation-trans _ _ _ (IsPermutation-append_right ns _ _ (placed-shuffles n ms)) (all-shuffle ns (placed n ms)))

none_apart : (ns : List (List ℕ)) → Apart ns []
none_apart [] = tt
none_apart (n ∷ ns) = (tt, none_apart ns)

-- the names in one partition are distinct
name-apart : (p : List ℕ) (f : File) (fs : List File) → in_partition p f ≡ true → AllByRecursion (λ k. name_of f ≡ k → ⊥) (map name_of fs)
    → AllByRecursion (λ n. f.name ≡ n → ⊥) (map (λ x. x.name) (filter (in_partition p) fs))
name-apart p f [] i a = tt
name-apart p f (x ∷ fs) i a =
    cond_both (in_partition p x) (x ∷ filter (in_partition p) fs) (filter (in_partition p) fs) (λ ys. AllByRecursion (λ n. f.name ≡ n → ⊥) (map (λ y. y.name) ys))
    (λ e.
    let same : f.partition ≡ x.partition = (bytes_eq-Decides f.partition p).0 i ∙ sym ((bytes_eq-Decides x.partition p).0 e) in
    ((λ k. a.0 (both same k)), name-apart p f fs i a.1))
    (λ e. name-apart p f fs i a.1)
  where
    both : f.partition ≡ x.partition → f.name ≡ x.name → name_of f ≡ name_of x
    both q k = ap (λ r. (r, f.name)) q ∙ ap (λ r. (x.partition, r)) k

names_distinct : (p : List ℕ) (fs : List File) → Distinct (map name_of fs) → Distinct (map (λ x. x.name) (filter (in_partition p) fs))
names_distinct p [] d = tt
names_distinct p (f ∷ fs) d =
    cond_both (in_partition p f) (f ∷ filter (in_partition p) fs) (filter (in_partition p) fs) (λ ys. Distinct (map (λ y. y.name) ys))
    (λ e. (name-apart p f fs e d.0, names_distinct p fs d.1)) (λ e. names_distinct p fs d.1)

pub scans : ScansAscend
scans cs p =
    let ns = names_in (reached cs).volume p in
    let d = names_distinct p (reached cs).volume.files (sound cs).files.names_distinct in
    (all-ascend ns [] d (none_apart ns) tt, subst (λ xs. IsPermutation xs (sorted ns)) (append-nil ns) (all-shuffle ns []))
