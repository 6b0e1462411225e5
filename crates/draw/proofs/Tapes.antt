-- The words of a tape, and a tape at its end and with a word left.
use Rattle.std.proofs.Common.{◌≡◌, ℕ, zero, suc, List, [], ◌∷◌, get_or, refl, subst}
use Rattle.draw.specs.Sources.{Short, tape_words}

-- a tape's word at a place is the list's, and past its end 65,535
pub tape-at : (ws : List ℕ) (k : ℕ) → tape_words ws k ≡ get_or ws k 65535
tape-at [] k = refl
tape-at (x ∷ xs) zero = refl
tape-at (x ∷ xs) (suc k) = tape-at xs k

pub short-rest : (ws : List ℕ) (x : ℕ) (xs : List ℕ) → ws ≡ x ∷ xs → Short ws → Short xs
short-rest ws x xs e h = λ k. subst Short e h (suc k)
