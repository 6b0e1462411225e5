-- Which of n places a draw selects, one flag for each, and how many words that takes.
use Rattle.std.specs.Prelude.{ℕ, zero, suc, ◌+◌, ◌*◌, Bool, true, false, cond, List, [], ◌∷◌, replicate}
use Rattle.draw.specs.Words.{Words, after, rolled, roll_taken}
use Rattle.draw.specs.declared.select.PartialWriteMode.{PartialWriteMode}
use Rattle.draw.specs.declared.select.PartialWriteMode.TheVariants.{Prefix, Subset}

-- a roll for each place until the first no; that place and those after it are not selected
abbrev pub prefix : (rate n : ℕ) → Words → List Bool
prefix rate zero w = []
prefix rate (suc n) w =
    cond (rolled rate w) (true ∷ prefix rate n (after (roll_taken rate) w)) (replicate (suc n) false)

-- how many words that takes: a roll for each selected place, and one for the place that says no, if any
abbrev pub prefix_taken : (rate n : ℕ) → Words → ℕ
prefix_taken rate zero w = 0
prefix_taken rate (suc n) w =
    cond (rolled rate w) (roll_taken rate + prefix_taken rate n (after (roll_taken rate) w)) (roll_taken rate)

-- a roll for each place
abbrev pub subset : (rate n : ℕ) → Words → List Bool
subset rate zero w = []
subset rate (suc n) w = rolled rate w ∷ subset rate n (after (roll_taken rate) w)

-- the words of a roll for each of n places
abbrev pub subset_taken : (rate n : ℕ) → ℕ
subset_taken rate n = n * roll_taken rate

-- the selection of a mode
abbrev pub selected : PartialWriteMode → (rate n : ℕ) → Words → List Bool
selected Prefix rate n w = prefix rate n w
selected Subset rate n w = subset rate n w

-- and how many words it takes
abbrev pub select_taken : PartialWriteMode → (rate n : ℕ) → Words → ℕ
select_taken Prefix rate n w = prefix_taken rate n w
select_taken Subset rate n w = subset_taken rate n
