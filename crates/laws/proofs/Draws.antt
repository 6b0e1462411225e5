-- Draws on two lists of words that begin with the same words come out the same.
use Rattle.std.proofs.Common.{◌≡◌, ℕ, zero, suc, ◌+◌, ◌*◌, ◌<◌, Bool, List, ◌∷◌, sym, refl, ap, ◌∙◌, suc-mul, arith}
use Rattle.draw.proofs.Counts.{after-at}
use Rattle.draw.specs.Words.{Words, rest, after, rolled, roll_taken, picked, pick_taken}
use Rattle.draw.specs.Selections.{prefix, prefix_taken, subset, selected, select_taken}
use Rattle.draw.specs.Sources.{tape_words}
use Rattle.draw.specs.declared.select.PartialWriteMode.{PartialWriteMode}
use Rattle.draw.specs.declared.select.PartialWriteMode.TheVariants.{Prefix, Subset}
use Rattle.laws.specs.Promises.{taken}

-- the first n words are the same
abbrev pub Upto : ℕ → Words → Words → Type 0
Upto n w u = (k : ℕ) → k < n → w k ≡ u k

pub upto-first : (a c : ℕ) (w u : Words) → Upto (a + c) w u → Upto a w u
upto-first a c w u h k l = h k (omega arith)

pub upto_rest : (a c : ℕ) (w u : Words) → Upto (a + c) w u → Upto c (after a w) (after a u)
upto_rest a c w u h k l = after-at a w k ∙ h (a + k) (omega arith) ∙ sym (after-at a u k)

pub rolled-upto : (rate : ℕ) (w u : Words) → Upto (roll_taken rate) w u → rolled rate u ≡ rolled rate w
rolled-upto rate w u h = grind (arith, h 0)

pub picked-upto : (n : ℕ) (w u : Words) → Upto (pick_taken n) w u → picked n u ≡ picked n w
picked-upto n w u h = grind (arith, h 0)

prefix-upto : (rate n : ℕ) (w u : Words) → Upto (prefix_taken rate n w) w u → prefix rate n u ≡ prefix rate n w
prefix-upto rate zero w u h = refl
prefix-upto rate (suc n) w u h =
    let t = roll_taken rate in
    let m = prefix_taken rate n (after t w) in
    grind (arith, h, rolled-upto rate w u, upto-first t m w u, upto_rest t m w u, prefix-upto rate n (after t w) (after t u))

subset-upto : (rate n : ℕ) (w u : Words) → Upto (n * roll_taken rate) w u → subset rate n u ≡ subset rate n w
subset-upto rate zero w u h = refl
subset-upto rate (suc n) w u h =
    let k : Upto (roll_taken rate + n * roll_taken rate) w u = λ i l. h i (omega (arith, suc-mul n (roll_taken rate))) in
    rw (rolled-upto rate w u (upto-first (roll_taken rate) _ w u k)) (ap (λ (fs : List Bool). rolled rate w ∷ fs) (subset-upto rate n _ _ (upto_rest (roll_taken rate) _ w u k)))

pub selected-upto : (m : PartialWriteMode) (rate n : ℕ) (w u : Words) → Upto (select_taken m rate n w) w u → selected m rate n u ≡ selected m rate n w
selected-upto Prefix rate n w u h = prefix-upto rate n w u h
selected-upto Subset rate n w u h = subset-upto rate n w u h

-- a tape of the words taken begins with them
pub tape-upto : (n : ℕ) (w : Words) → Upto n w (tape_words (taken n w))
tape-upto zero w k l = absurd (omega arith)
tape-upto (suc n) w zero l = refl
tape-upto (suc n) w (suc k) l = tape-upto n (rest w) k (omega arith)
