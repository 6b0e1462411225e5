-- Words taken and words left.
use Rattle.std.proofs.Common.{◌≡◌, ℕ, zero, suc, ◌+◌, ◌<◌, false, eqb, ◌∙◌, mod-lt, suc-add, zero-add, arith}
use Rattle.std.proofs.lemmas.Bool.{ne_eqb}
use Rattle.draw.specs.Words.{Words, after, rest, picked}

-- what stands at place k once n words are taken stood at place n + k
pub after-at : (n : ℕ) (w : Words) (k : ℕ) → after n w k ≡ w (n + k)
after-at zero w k = rw zero-add
after-at (suc n) w k = after-at n (rest w) k ∙ rw suc-add

-- n words taken, and then m more
pub after-after : (m n : ℕ) (w : Words) → after m (after n w) ≡ after (n + m) w
after-after m zero w = rw zero-add
after-after m (suc n) w = after-after m n (rest w) ∙ rw suc-add

-- a pick is below the number of choices
pub picked-below : (n : ℕ) (w : Words) → 0 < n → picked n w < n
picked-below n w h =
    let e : eqb n 0 ≡ false = ne_eqb n 0 (λ z. omega arith) in
    rw e (mod-lt (w 0) h)
