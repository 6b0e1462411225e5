-- A patch has a byte, or none, for each place from some place on: which bytes of a write a crash keeps.
use Rattle.std.specs.Prelude.{ℕ, suc, Bool, cond, List, [], ◌∷◌, Some, None, Option}
use Rattle.content.specs.Bytes.{written}

-- a byte or none for each place, in order
abbrev pub Patch : Type 0
Patch = List (Option ℕ)

-- the chosen ones of some bytes; a byte without a flag is not chosen
abbrev pub patch : List ℕ → List Bool → Patch
patch [] flags = []
patch (b ∷ bs) [] = None ∷ patch bs []
patch (b ∷ bs) (f ∷ flags) = cond f (Some b) None ∷ patch bs flags

-- a patch laid over a content from a place on: each of its bytes is stored, with zeros up to it where the content is
-- shorter, and what it has no byte for stays; the last byte comes first, which makes no difference
abbrev pub lay : List ℕ → ℕ → Patch → List ℕ
lay xs at [] = xs
lay xs at (None ∷ os) = lay xs (suc at) os
lay xs at (Some b ∷ os) = written (lay xs (suc at) os) at (b ∷ [])
