-- A change of the row at a place of a table.
use Rattle.std.proofs.Common.{◌≡◌, ℕ, ◌<◌, Bool, List, get_or, take, set, sym, ap, ◌∙◌, arith}
use Rattle.std.proofs.lemmas.List.{length-take, get_or-take}
use lib.Seq.{take-set-lt}
use Rattle.store.specs.Tables.{amended}
use Rattle.store.proofs.Finds.{Found}

-- the first n rows are in use, and the first of them that passes is at a place
module _ {A : Type 0} (rows : List A) (n i : ℕ) (d : A) (p : A → Bool) (at : Found p (take n rows) i) where
  below : i < n
  below = omega (arith, at.inside, length-take n rows)

  pub row-there : get_or (take n rows) i d ≡ get_or rows i d
  row-there = get_or-take n rows i d below

  -- a change there changes the first row in use that passes
  pub row-changed : (g : A → A) (new : A) → new ≡ g (get_or rows i d) → take n (set rows i new) ≡ amended p g (take n rows)
  row-changed g new e = take-set-lt n rows i new below ∙ ap (set (take n rows) i) (e ∙ ap g (sym row-there)) ∙ sym (at.change g d)
