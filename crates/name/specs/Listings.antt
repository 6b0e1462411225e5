-- Names in ascending order, and as a scan writes them.
use Rattle.std.specs.Prelude.{ℕ, cond, List, [], ◌∷◌, ◌++◌, length, drop}
use Rattle.std.specs.List.{flat_map, fold}
use Rattle.name.specs.Names.{before}

-- one more name in an ascending list: it takes the place of the first that it comes before, and that one moves on likewise
abbrev pub placed : List ℕ → List (List ℕ) → List (List ℕ)
placed n [] = n ∷ []
placed n (m ∷ ms) = cond (before n m) (n ∷ placed m ms) (m ∷ placed n ms)

-- some names, placed one after another among others
abbrev pub placed_all : List (List ℕ) → List (List ℕ) → List (List ℕ)
placed_all ns ms = fold (λ ks n. placed n ks) ms ns

-- names in ascending order
abbrev pub sorted : List (List ℕ) → List (List ℕ)
sorted ns = placed_all ns []

-- each name after its length byte
abbrev pub listing : List (List ℕ) → List ℕ
listing ns = flat_map (λ n. length n ∷ n) ns

-- the least area of a scan: eight names of 16 bytes, each after its length byte
abbrev pub scan_area : ℕ
scan_area = 136

-- some bytes put first in an area; the rest of it stays
abbrev pub first : List ℕ → List ℕ → List ℕ
first bs area = bs ++ drop (length bs) area
