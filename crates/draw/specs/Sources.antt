-- The words of the two sources: a tape of given words, and a 64-bit shift-register generator.
use Rattle.std.specs.Prelude.{ℕ, zero, suc, ◌*◌, ◌/◌, ◌%◌, ◌^◌, ◌<◌, List, [], ◌∷◌, bit_xor, slice_index}
use Rattle.std.proofs.Math.Dec.{lit<}
use Rattle.std.proofs.Math.Nat.{mod-lt}
use Rattle.draw.specs.Words.{Words}

-- one word, then the others
abbrev pub before : ℕ → Words → Words
before x w zero = x
before x w (suc k) = w k

-- the words of the list, then 65,535 for ever
abbrev pub tape_words : List ℕ → Words
tape_words [] = λ k. 65535
tape_words (x ∷ xs) = before x (tape_words xs)

-- each word of the list is below 65,536
abbrev pub Short : List ℕ → Type 0
Short xs = (k : ℕ) → slice_index xs k < 65536

-- the state after s: three shifts, each combined by exclusive or, modulo 2^64
abbrev pub stepped : ℕ → ℕ
stepped s =
    let a = bit_xor s (s * 2 ^ 13 % 2 ^ 64) in
    let b = bit_xor a (a / 2 ^ 7) in
    bit_xor b (b * 2 ^ 17 % 2 ^ 64)

-- each word is the low 16 bits of the state that its step gives
abbrev pub generated : ℕ → Words
generated s zero = stepped s % 65536
generated s (suc k) = generated (stepped s) k

-- one word below 65,536 before others below it
pub before-narrow : (x : ℕ) (w : Words) → x < 65536 → ((k : ℕ) → w k < 65536) → (k : ℕ) → before x w k < 65536
before-narrow x w h hs zero = h
before-narrow x w h hs (suc k) = hs k

-- the words of a tape are below 65,536
pub tape-narrow : (xs : List ℕ) → Short xs → (k : ℕ) → tape_words xs k < 65536
tape-narrow [] h k = lit< tt
tape-narrow (x ∷ xs) h k = before-narrow x (tape_words xs) (h 0) (tape-narrow xs (λ i. h (suc i))) k

-- the words of the generator are below 65,536
pub generated-narrow : (s k : ℕ) → generated s k < 65536
generated-narrow s zero = mod-lt (stepped s) (lit< tt)
generated-narrow s (suc k) = generated-narrow (stepped s) k
