-- What a change of length leaves of an array with zeros behind its front.
use Rattle.std.proofs.Common.{◌≡◌, ℕ, ◌+◌, ◌-◌, ◌≤◌, max, List, ◌++◌, length, take, drop, replicate, sym, ap, ◌∙◌, arith, rules, take-append-drop, length-take-le}
use Rattle.std.proofs.lemmas.List.{places, same_lists, drop_at, drop-drop, drop-replicate, replicate-append-replicate}

-- zeros behind bytes, up to a length or to the capacity: the first ones are the same
grown_front : (v : List ℕ) (cap len : ℕ) → length v ≤ len → len ≤ cap → take len (v ++ replicate (cap - length v) 0) ≡ take len (v ++ replicate (len - length v) 0)
grown_front v cap len a b = same_lists _ _ (search (rules, places)) (λ k d h. grind (arith, places))

-- bytes over a front with zeros behind it: zeros are behind the longer of the two, and before them what a write gives
abbrev pasted : List ℕ → ℕ → ℕ → List ℕ → List ℕ
pasted v cap at ys = take at (v ++ replicate (cap - length v) 0) ++ (ys ++ drop (at + length ys) (v ++ replicate (cap - length v) 0))

module _ (v : List ℕ) (cap at : ℕ) (ys : List ℕ) (h : length v ≤ cap) (e : at + length ys ≤ cap) where
  pasted_spare : drop (max (length v) (at + length ys)) (pasted v cap at ys) ≡ replicate (cap - max (length v) (at + length ys)) 0
  pasted_spare = same_lists _ _ (search (rules, places)) (λ k d m. grind (arith, places))

  pasted_front : take (max (length v) (at + length ys)) (pasted v cap at ys) ≡ take at (v ++ replicate (at - length v) 0) ++ (ys ++ drop (at + length ys) v)
  pasted_front = same_lists _ _ (search (rules, places)) (λ k d m. grind (arith, places))

module _ (cap was len : ℕ) (bs : List ℕ) (h : was ≤ cap) (l : length bs ≡ cap) (z : drop was bs ≡ replicate (cap - was) 0) (fits : len ≤ cap) where
  pub all_is : bs ≡ take was bs ++ replicate (cap - length (take was bs)) 0
  all_is = sym (take-append-drop was bs) ∙ ap (λ zs. take was bs ++ zs) (z ∙ ap (λ k. replicate (cap - k) 0) (sym (length-take-le was bs (omega (arith, h, l)))))

  -- further on there are still zeros
  pub grown_spare : was ≤ len → drop len bs ≡ replicate (cap - len) 0
  grown_spare g =
      let e : was + (len - was) ≡ len = omega (arith, g) in
      let k : (cap - was) - (len - was) ≡ cap - len = omega (arith, g, h, fits) in
      ap (λ j. drop j bs) (sym e) ∙ sym (drop-drop (len - was) was bs) ∙ ap (drop (len - was)) z ∙ drop-replicate (len - was) (cap - was) 0 ∙ ap (λ j. replicate j 0) k

  pub grown : was ≤ len → take len bs ≡ take len (take was bs ++ replicate (len - length (take was bs)) 0)
  grown g = ap (take len) all_is ∙ grown_front (take was bs) cap len (omega (arith, g, length-take-le was bs (omega (arith, h, l)))) fits

  module _ (now : List ℕ) (is : now ≡ take len bs ++ (replicate (was - len) 0 ++ drop was bs)) (c : len ≤ was) where
    pub cut_length : length now ≡ cap
    cut_length = ap length is ∙ search (rules, places)

    -- what is cut off is zeros
    pub cut_spare : drop len now ≡ replicate (cap - len) 0
    cut_spare =
        let k : (was - len) + (cap - was) ≡ cap - len = omega (arith, c, h, fits) in
        let front : length (take len bs) ≡ len = length-take-le len bs (omega (arith, c, h, l)) in
        let zeros : replicate (was - len) 0 ++ drop was bs ≡ replicate ((was - len) + (cap - was)) 0 =
        ap (λ zs. replicate (was - len) 0 ++ zs) z ∙ replicate-append-replicate {A = ℕ} (was - len) (cap - was) 0 in
        ap (drop len) is ∙ drop_at (take len bs) (replicate (was - len) 0 ++ drop was bs) len front ∙ zeros ∙ ap (λ j. replicate j 0) k

    pub cut_front : take len now ≡ take len (take was bs ++ replicate (len - length (take was bs)) 0)
    cut_front = ap (take len) is ∙ same_lists _ _ (search (rules, places)) (λ j d m. grind (arith, places))

-- a change from a place on, and the longer length
module _ (cap was at len : ℕ) (bs ys now : List ℕ) (h : was ≤ cap) (l : length bs ≡ cap) (z : drop was bs ≡ replicate (cap - was) 0) (e : at + length ys ≤ cap)
    (is : now ≡ take at bs ++ (ys ++ drop (at + length ys) bs)) (m : len ≡ max was (at + length ys)) where
  put_is : now ≡ pasted (take was bs) cap at ys
  put_is = is ∙ ap (λ xs. take at xs ++ (ys ++ drop (at + length ys) xs)) (all_is cap was was bs h l z h)

  longer : len ≡ max (length (take was bs)) (at + length ys)
  longer = m ∙ ap (λ j. max j (at + length ys)) (sym (length-take-le was bs (omega (arith, h, l))))

  few : length (take was bs) ≤ cap
  few = omega (arith, h, l, length-take-le was bs (omega (arith, h, l)))

  pub put_length : length now ≡ cap
  put_length = ap length is ∙ search (rules, places)

  pub put_spare : drop len now ≡ replicate (cap - len) 0
  put_spare = rw (put_is, longer) (pasted_spare (take was bs) cap at ys few e)

  pub put_front : take len now ≡ take at (take was bs ++ replicate (at - length (take was bs)) 0) ++ (ys ++ drop (at + length ys) (take was bs))
  put_front = rw (put_is, longer) (pasted_front (take was bs) cap at ys few e)
