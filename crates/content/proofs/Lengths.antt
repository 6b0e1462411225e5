-- How long a content is after a change.
use Rattle.std.proofs.Common.{◌≡◌, ℕ, suc, ◌+◌, ◌≤◌, max, List, [], ◌∷◌, length, Some, None, arith, rules}
use Rattle.std.proofs.lemmas.List.{places}
use Rattle.content.specs.Bytes.{written, cut}
use Rattle.content.specs.Patches.{Patch, lay}

pub length-written : (xs : List ℕ) (at : ℕ) (ys : List ℕ) → length (written xs at ys) ≡ max (length xs) (at + length ys)
unfolding written
length-written xs at ys = search (rules, places)

pub length_cut : (n : ℕ) (xs : List ℕ) → length (cut n xs) ≡ n
unfolding cut
length_cut n xs = search (rules, places)

-- a patch never shortens a content, and lengthens it to its own end at most
pub lay-keeps : (xs : List ℕ) (at : ℕ) (os : Patch) → length xs ≤ length (lay xs at os)
lay-keeps xs at [] = omega arith
lay-keeps xs at (None ∷ os) = lay-keeps xs (suc at) os
lay-keeps xs at (Some b ∷ os) = omega (arith, lay-keeps xs (suc at) os, length-written (lay xs (suc at) os) at (b ∷ []))

pub lay-ends : (xs : List ℕ) (at : ℕ) (os : Patch) → length (lay xs at os) ≤ max (length xs) (at + length os)
lay-ends xs at [] = omega arith
lay-ends xs at (None ∷ os) = omega (arith, lay-ends xs (suc at) os)
lay-ends xs at (Some b ∷ os) = omega (arith, lay-ends xs (suc at) os, length-written (lay xs (suc at) os) at (b ∷ []))
