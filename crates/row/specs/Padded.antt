-- Bytes with zeros behind them, up to a capacity.
use Rattle.std.proofs.Common.{◌≡◌, ℕ, ◌-◌, ◌≤◌, List, ◌++◌, length, take, drop, replicate, sym, ap, ◌∙◌, arith, take-append-drop, length-take-le}

module _ (cap len : ℕ) (bs : List ℕ) (h : len ≤ cap) (l : length bs ≡ cap) where
  pub padded_len : length (take len bs) ≡ len
  padded_len = length-take-le len bs (omega (arith, h, l))

  -- what is behind the front of the array is known, so the front tells the array
  pub padded : drop len bs ≡ replicate (cap - len) 0 → take len bs ++ replicate (cap - length (take len bs)) 0 ≡ bs
  padded z = ap (λ k. take len bs ++ replicate (cap - k) 0) padded_len ∙ ap (λ zs. take len bs ++ zs) (sym z) ∙ take-append-drop len bs
