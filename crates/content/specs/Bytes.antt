-- The bytes of a file, header included, and what a write and a resize make of them.
use Rattle.std.specs.Prelude.{ℕ, ◌+◌, ◌-◌, cond, List, ◌++◌, length, take, drop, replicate, nat_le}

-- the most bytes that a file holds, header included
abbrev pub limit : ℕ
limit = 1016

-- at least n bytes: zeros follow where there are fewer
abbrev pub filled : ℕ → List ℕ → List ℕ
filled n xs = xs ++ replicate (n - length xs) 0

-- a write: its bytes from a place on, after zeros where the content is shorter; what is behind them stays
unfoldable pub written : List ℕ → ℕ → List ℕ → List ℕ
written xs at ys = take at (filled at xs) ++ (ys ++ drop (at + length ys) xs)

-- a resize: the content cut or zero-filled to n bytes
unfoldable pub cut : ℕ → List ℕ → List ℕ
cut n xs = take n (filled n xs)

-- what comes of a change that ends at a place: nothing changes where that is past the limit
abbrev pub within : ℕ → List ℕ → List ℕ → List ℕ
within end new old = cond (nat_le end limit) new old
