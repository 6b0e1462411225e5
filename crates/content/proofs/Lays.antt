-- A patch laid from its first byte on, one byte after another.
use Rattle.std.proofs.Common.{◌≡◌, ℕ, suc, ◌<◌, Bool, true, false, List, [], ◌∷◌, length, Some, None, refl, ap, ◌∙◌, arith, rules}
use Rattle.std.proofs.lemmas.List.{same_lists, places}
use Rattle.content.specs.Bytes.{written}
use Rattle.content.specs.Patches.{Patch, patch, lay}

pub length_patch : (bs : List ℕ) (fs : List Bool) → length (patch bs fs) ≡ length bs
length_patch [] fs = refl
length_patch (b ∷ bs) [] = ap suc (length_patch bs [])
length_patch (b ∷ bs) (f ∷ fs) = ap suc (length_patch bs fs)

-- two bytes at different places, in either order
written-swap : (xs : List ℕ) (i j b c : ℕ) → i < j → written (written xs i (b ∷ [])) j (c ∷ []) ≡ written (written xs j (c ∷ [])) i (b ∷ [])
unfolding written
written-swap xs i j b c h = same_lists _ _ (search (rules, places)) (λ k d l. grind (arith, places))

-- a byte before a patch, in either order
lay-written : (xs : List ℕ) (i j b : ℕ) (os : Patch) → i < j → lay (written xs i (b ∷ [])) j os ≡ written (lay xs j os) i (b ∷ [])
lay-written xs i j b [] h = refl
lay-written xs i j b (None ∷ os) h = lay-written xs i (suc j) b os (omega arith)
lay-written xs i j b (Some c ∷ os) h =
    ap (λ ys. written ys j (c ∷ [])) (lay-written xs i (suc j) b os (omega arith)) ∙ written-swap (lay xs (suc j) os) i j b c h

module _ (xs : List ℕ) (at : ℕ) where
  -- a byte that is chosen is written, and the others are laid behind it
  pub lay-chosen : (b : ℕ) (bs : List ℕ) (f : Bool) (fs : List Bool) → f ≡ true → lay (written xs at (b ∷ [])) (suc at) (patch bs fs) ≡ lay xs at (patch (b ∷ bs) (f ∷ fs))
  lay-chosen b bs f fs e = rw e (lay-written xs at (suc at) b (patch bs fs) (omega arith))

  -- a byte that is not chosen is passed over
  pub lay-skipped : (b : ℕ) (bs : List ℕ) (f : Bool) (fs : List Bool) → f ≡ false → lay xs (suc at) (patch bs fs) ≡ lay xs at (patch (b ∷ bs) (f ∷ fs))
  lay-skipped b bs f fs e = rw e refl

-- bytes without a flag leave all as it is
pub lay-unflagged : (xs : List ℕ) (at : ℕ) (bs : List ℕ) → lay xs at (patch bs []) ≡ xs
lay-unflagged xs at [] = refl
lay-unflagged xs at (b ∷ bs) = lay-unflagged xs (suc at) bs

-- what each turn of the loop that lays a patch comes by
pub ruleset lay_turns = (lay-chosen, lay-skipped, length_patch)
