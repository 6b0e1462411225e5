-- The wrong logs, by computing.
use Rattle.std.proofs.Common.{◌≡◌, ℕ, Some, None, Option, sym, refl, ◌∙◌, arith}
use Rattle.std.proofs.lemmas.Option.{same_Some}
use Rattle.std.proofs.lemmas.Bool.{false≢true}
use Rattle.content.specs.Bytes.{written, cut}
use Rattle.laws.specs.Pages.{settled_at, Allowed, as_fixed, as_put, blank_marked, blank_unfixed}
use Rattle.laws.specs.Variants.{VariantsFail}

-- a place where a byte was fixed, and nothing noted since, holds that byte alone
only-fixed : (b : ℕ) (o : Option ℕ) → Allowed (settled_at (Some b)) o → o ≡ Some b
only-fixed b o (as_fixed a e f) = e ∙ sym f
only-fixed b o (as_put a e h) = absurd (omega (arith, h.1))
only-fixed b o (blank_marked z m) = absurd (false≢true m)
only-fixed b o (blank_unfixed z f) = cc

pub variants : VariantsFail
unfolding written cut
variants = record {
  older_byte = refl;
  older_byte_barred = λ h. (let e = same_Some 0x42 0x58 (only-fixed 0x58 (Some 0x42) h) in omega arith);
  earlier_resize = refl;
  earlier_resize_barred = λ h. let e = only-fixed 0x5a None h in cc;
  right = refl;
  drawn_anew = refl;
}
