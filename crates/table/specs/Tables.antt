-- Rows of a table.
use Rattle.std.specs.Prelude.{ℕ, ◌+◌, cond, List, ◌++◌, length, take, drop, nat_lt}

-- one row moved behind all others, which keep their order; a place past the end moves none
abbrev pub retiring : {A : Type 0} → List A → ℕ → List A
retiring xs i = cond (nat_lt i (length xs)) (take i xs ++ (drop (i + 1) xs ++ take 1 (drop i xs))) xs
