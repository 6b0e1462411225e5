-- What a draw source means: the words still to come, and what a roll and a pick make of them.
use Rattle.std.specs.Prelude.{ℕ, zero, suc, ◌%◌, ◌<◌, Bool, true, false, cond, ◌==◌, nat_lt}

-- an endless list of words: the word at each place, 0 being the next
abbrev pub Words : Type 0
Words = ℕ → ℕ

-- the next word
abbrev pub front : Words → ℕ
front w = w 0

-- what is left once the next word is taken
abbrev pub rest : Words → Words
rest w = λ k. w (suc k)

-- what is left once n words are taken
abbrev pub after : ℕ → Words → Words
after zero w = w
after (suc n) w = after n (rest w)

-- rate 0 says no and rate 65,536 says yes; at any other rate, whether the next word is below it
abbrev pub rolled : ℕ → Words → Bool
rolled rate w = cond (rate == 0) false (cond (rate == 65536) true (nat_lt (front w) rate))

-- a roll at rate 0 or 65,536 takes no word, and one at any other rate takes one
abbrev pub roll_taken : ℕ → ℕ
roll_taken rate = cond (rate == 0) 0 (cond (rate == 65536) 0 1)

-- the next word modulo n; 0 if n is 0
abbrev pub picked : ℕ → Words → ℕ
picked n w = cond (n == 0) 0 (front w % n)

-- a pick of 0 takes no word, and any other takes one
abbrev pub pick_taken : ℕ → ℕ
pick_taken n = cond (n == 0) 0 1

-- each word of each source is below 65,536
abbrev pub Narrow : {S : Type 0} → (S → Words) → Type 0
Narrow {S} words = (s : S) (k : ℕ) → words s k < 65536
