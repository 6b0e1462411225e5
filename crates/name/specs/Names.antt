-- Names of partitions and files, as lists of bytes.
use Rattle.std.specs.List.{list_all}
use Rattle.std.specs.Prelude.{ℕ, Bool, true, false, cond, ◌&&◌, ◌||◌, List, [], ◌∷◌, length, ◌==◌, nat_le, nat_lt}

-- the most bytes of a partition's or a file's name
abbrev pub name_limit : ℕ
name_limit = 16

-- letters a to z or A to Z, digits, hyphens and underscores
abbrev pub letter : ℕ → Bool
letter b = (nat_le 97 b && nat_le b 122) || ((nat_le 65 b && nat_le b 90) || ((nat_le 48 b && nat_le b 57) || (b == 45 || b == 95)))

-- every byte is a letter, a digit, a hyphen or an underscore
abbrev pub letters : List ℕ → Bool
letters bs = list_all letter bs

-- a partition is named by 1 to 16 such letters
abbrev pub is_partition : List ℕ → Bool
is_partition bs = (nat_le 1 (length bs) && nat_le (length bs) name_limit) && letters bs

-- ascending byte order, a shorter prefix first; spelled out, where std has a comparison with three answers
abbrev pub before : List ℕ → List ℕ → Bool
before [] [] = false
before [] (y ∷ ys) = true
before (x ∷ xs) [] = false
before (x ∷ xs) (y ∷ ys) = cond (x == y) (before xs ys) (nat_lt x y)
