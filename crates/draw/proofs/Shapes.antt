-- What every selection keeps to: its length, its edges, and where a prefix stops.
use Rattle.std.proofs.Common.{◌≡◌, ℕ, zero, suc, ◌+◌, ◌-◌, ◌*◌, ◌≤◌, min, Bool, true, false, cond, List, ◌∷◌, ◌++◌, length, replicate, refl, ap, suc-mul, one-mul, mul-zero, zero-add, zero-mul, arith}
use lib.ListN.{length-replicate}
use Rattle.draw.specs.Words.{Words, after, rolled, roll_taken}
use Rattle.draw.specs.Selections.{prefix, prefix_taken, subset, selected, select_taken}
use Rattle.draw.specs.declared.select.PartialWriteMode.{PartialWriteMode}
use Rattle.draw.specs.declared.select.PartialWriteMode.TheVariants.{Prefix, Subset}

-- a selection over n places has n flags
cond-length : (b : Bool) (n : ℕ) (xs : List Bool) → length xs ≡ n → length (cond b (true ∷ xs) (replicate (suc n) false)) ≡ suc n
cond-length true n xs e = ap suc e
cond-length false n xs e = length-replicate (suc n) false

pub prefix-length : (rate n : ℕ) (w : Words) → length (prefix rate n w) ≡ n
prefix-length rate zero w = refl
prefix-length rate (suc n) w =
    let v = after (roll_taken rate) w in
    cond-length (rolled rate w) n (prefix rate n v) (prefix-length rate n v)

pub subset-length : (rate n : ℕ) (w : Words) → length (subset rate n w) ≡ n
subset-length rate zero w = refl
subset-length rate (suc n) w = ap suc (subset-length rate n (after (roll_taken rate) w))

pub selected-length : (mode : PartialWriteMode) (rate n : ℕ) (w : Words) → length (selected mode rate n w) ≡ n
selected-length Prefix rate n w = prefix-length rate n w
selected-length Subset rate n w = subset-length rate n w

-- rate 65,536 selects every place, and rate 0 none
pub selected-all : (mode : PartialWriteMode) (n : ℕ) (w : Words) → selected mode 65536 n w ≡ replicate n true
selected-all Prefix zero w = refl
selected-all Prefix (suc n) w = ap (λ xs. true ∷ xs) (selected-all Prefix n w)
selected-all Subset zero w = refl
selected-all Subset (suc n) w = ap (λ xs. true ∷ xs) (selected-all Subset n w)

pub selected-none : (mode : PartialWriteMode) (n : ℕ) (w : Words) → selected mode 0 n w ≡ replicate n false
selected-none Prefix zero w = refl
selected-none Prefix (suc n) w = refl
selected-none Subset zero w = refl
selected-none Subset (suc n) w = ap (λ xs. false ∷ xs) (selected-none Subset n w)

-- neither takes a word
pub taken-all : (mode : PartialWriteMode) (n : ℕ) (w : Words) → select_taken mode 65536 n w ≡ 0
taken-all Prefix zero w = refl
taken-all Prefix (suc n) w = rw zero-add (taken-all Prefix n w)
taken-all Subset n w = mul-zero n

pub taken_none : (mode : PartialWriteMode) (n : ℕ) (w : Words) → select_taken mode 0 n w ≡ 0
taken_none Prefix zero w = refl
taken_none Prefix (suc n) w = refl
taken_none Subset n w = mul-zero n

-- a prefix over n places: some m are selected, then no more, by a roll for each of them and one that says no if m is below n
abbrev pub Stops : (rate n : ℕ) → List Bool → ℕ → ℕ → Type 0
Stops rate n flags taken m =
    (m ≤ n) × (flags ≡ replicate m true ++ replicate (n - m) false) × (taken ≡ min n (suc m) * roll_taken rate)

stops-more : (rate n m taken : ℕ) (flags : List Bool) → Stops rate n flags taken m → Stops rate (suc n) (true ∷ flags) (roll_taken rate + taken) (suc m)
stops-more rate n m taken flags (h, e, t) =
    let d : suc n - suc m ≡ n - m = omega arith in
    let k : min (suc n) (suc (suc m)) ≡ suc (min n (suc m)) = omega arith in
    (omega arith, rw (d, e) refl, rw (k, t) (omega (arith, suc-mul (min n (suc m)) (roll_taken rate))))

stops-here : (rate n : ℕ) → Stops rate (suc n) (replicate (suc n) false) (roll_taken rate) 0
stops-here rate n =
    let d : suc n - 0 ≡ suc n = omega arith in
    let k : min (suc n) 1 ≡ 1 = omega arith in
    (omega arith, rw d refl, rw (k, one-mul) refl)

stops-either : (rate n m taken : ℕ) (flags : List Bool) → Stops rate n flags taken m → (b : Bool) → (k : ℕ) × Stops rate (suc n) (cond b (true ∷ flags) (replicate (suc n) false)) (cond b (roll_taken rate + taken) (roll_taken rate)) k
stops-either rate n m taken flags s true = (suc m, stops-more rate n m taken flags s)
stops-either rate n m taken flags s false = (0, stops-here rate n)

pub prefix-stops : (rate n : ℕ) (w : Words) → (m : ℕ) × Stops rate n (prefix rate n w) (prefix_taken rate n w) m
prefix-stops rate zero w = (0, (omega arith, refl, rw zero-mul refl))
prefix-stops rate (suc n) w =
    let v = after (roll_taken rate) w in
    let s = prefix-stops rate n v in
    stops-either rate n s.0 (prefix_taken rate n v) (prefix rate n v) s.1 (rolled rate w)
