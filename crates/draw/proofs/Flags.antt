-- The loops that write a selection flag by flag.
use Rattle.std.proofs.Common.{◌≡◌, ℕ, suc, ◌+◌, ◌-◌, ◌*◌, ◌<◌, Bool, true, false, cond, List, ◌∷◌, ◌++◌, length, take, set, replicate, refl, ap, ◌∙◌, suc-mul, arith}
use Rattle.std.proofs.lemmas.List.{take_more_set, append_assoc}
use Rattle.draw.specs.Words.{Words, after, rolled, roll_taken}
use Rattle.draw.specs.Selections.{prefix, prefix_taken, subset, subset_taken}
use Rattle.draw.proofs.Counts.{after-after}

-- what is still to come of a prefix: its flags and its words, if no roll has said no, and else flags that are not set
abbrev pub onward : Bool → (rate n : ℕ) → Words → List Bool
onward going rate n w = cond going (prefix rate n w) (replicate n false)

abbrev pub onward_taken : Bool → (rate n : ℕ) → Words → ℕ
onward_taken going rate n w = cond going (prefix_taken rate n w) 0

-- one roll of a prefix: the flag that it gives, and what is to come after it
module _ (rate m : ℕ) (w v : Words) (b : Bool) where
  onward-more : (going : Bool) → b ≡ cond going (rolled rate w) false → v ≡ after (cond going (roll_taken rate) 0) w → onward going rate (suc m) w ≡ b ∷ onward b rate m v
  onward-more true said left = grind (arith, said, left)
  onward-more false said left = rw said refl

  onward_taken-more : (going : Bool) → b ≡ cond going (rolled rate w) false → v ≡ after (cond going (roll_taken rate) 0) w → after (onward_taken b rate m v) v ≡ after (onward_taken going rate (suc m) w) w
  onward_taken-more true said left = grind (arith, said, left, after-after (prefix_taken rate m (after (roll_taken rate) w)) (roll_taken rate) w)
  onward_taken-more false said left = rw (said, left) refl

-- a turn of either loop, which writes the flag b at i
module _ (out : List Bool) (n i : ℕ) (h : i < n) (len : length out ≡ n) where
  less : n - i ≡ suc (n - (i + 1))
  less = omega arith

  written : (b : Bool) (xs ys : List Bool) → xs ≡ b ∷ ys → take (i + 1) (set out i b) ++ ys ≡ take i out ++ xs
  written b xs ys e = let m : i < length out = omega arith in rw (take_more_set out i b m, append_assoc, e) refl

  module _ (rate : ℕ) (w v : Words) (b : Bool) where
    pub subset-flags : b ≡ rolled rate w → v ≡ after (roll_taken rate) w → take (i + 1) (set out i b) ++ subset rate (n - (i + 1)) v ≡ take i out ++ subset rate (n - i) w
    subset-flags said left = written b _ _ (rw (less, said, left) refl)

    pub subset_left : v ≡ after (roll_taken rate) w → after (subset_taken rate (n - (i + 1))) v ≡ after (subset_taken rate (n - i)) w
    subset_left left =
        let t = roll_taken rate in
        let m = n - (i + 1) in
        let e : t + m * t ≡ suc m * t = omega (arith, suc-mul m t) in
        rw (left, less) (after-after (m * t) t w ∙ ap (λ k. after k w) e)

    pub prefix-flags : (going : Bool) → b ≡ cond going (rolled rate w) false → v ≡ after (cond going (roll_taken rate) 0) w → take (i + 1) (set out i b) ++ onward b rate (n - (i + 1)) v ≡ take i out ++ onward going rate (n - i) w
    prefix-flags going said left = written b _ _ (rw less (onward-more rate (n - (i + 1)) w v b going said left))

    pub prefix-left : (going : Bool) → b ≡ cond going (rolled rate w) false → v ≡ after (cond going (roll_taken rate) 0) w → after (onward_taken b rate (n - (i + 1)) v) v ≡ after (onward_taken going rate (n - i) w) w
    prefix-left going said left = rw less (onward_taken-more rate (n - (i + 1)) w v b going said left)

-- a turn of either loop, for the tactic
pub ruleset turns = (subset-flags, subset_left, prefix-flags, prefix-left)
