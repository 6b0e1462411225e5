-- What each place holds after a write, a patch, a cut, a selection or a clearing.
use Rattle.std.proofs.Common.{◌≡◌, ℕ, zero, suc, ◌+◌, ◌<◌, Bool, true, false, cond, eqb, ◌⊎◌, List, [], ◌∷◌, ◌++◌, length, drop, is_some, Some, None, Option, sym, refl, ap, ◌∙◌, inl, inr, add-suc, suc-add, zero-add, arith, map}
use Rattle.std.proofs.Math.Seq.{drop-nil}
use Rattle.std.proofs.lemmas.Bool.Decides.{nat_tests}
use Rattle.std.specs.Option.{option_or}
use native.Mathlib.Numerals.{unary_clauses}
use Rattle.std.proofs.lemmas.Bool.{ne_eqb, cond_both}
use Rattle.content.specs.Bytes.{written, cut}
use Rattle.content.specs.Patches.{Patch, lay}
use Rattle.steps.specs.Log.{covers, cleared, idle, kept}
use Rattle.laws.specs.Pages.{held, reach, Blank}

-- as it was, or a zero where nothing was
abbrev pub Near : Option ℕ → Option ℕ → Type 0
Near o n = (n ≡ o) ⊎ ((o ≡ None) × (n ≡ Some 0))

-- what a patch with this byte, or none, leaves of a place
abbrev pub Over : Option ℕ → Option ℕ → Option ℕ → Type 0
Over None o n = Near o n
Over (Some b) o n = n ≡ Some b

pub none-some : {A : Type 0} {o : Option A} {b : A} → o ≡ None → o ≡ Some b → ⊥
none-some {A} {o} {b} e f = cc

eqb-add : (d i q : ℕ) → eqb (d + i) (d + q) ≡ eqb i q
eqb-add d i q = grind (arith, nat_tests)

pub reach-shift : (d i : ℕ) (f : Patch) (q : ℕ) → reach (d + i) f (d + q) ≡ reach i f q
reach-shift d i [] q = refl
reach-shift d i (None ∷ f) q = rw (← add-suc d i) (reach-shift d (suc i) f q)
reach-shift d i (Some b ∷ f) q = rw (eqb-add d i q, ← add-suc d i, reach-shift d (suc i) f q)

reach-suc : (i : ℕ) (f : Patch) (q : ℕ) → reach (suc i) f (suc q) ≡ reach i f q
reach-suc i f q =
    let a : suc i ≡ 1 + i = omega arith in
    let b : suc q ≡ 1 + q = omega arith in
    rw (a, b) (reach-shift 1 i f q)

pub reach-before : (i : ℕ) (os : Patch) (q : ℕ) → q < i → reach i os q ≡ None
reach-before i [] q h = refl
reach-before i (None ∷ os) q h = reach-before (suc i) os q (omega arith)
reach-before i (Some b ∷ os) q h = rw (ne_eqb i q (omega arith)) (reach-before (suc i) os q (omega arith))

-- a write, byte by byte
written-cons : (x : ℕ) (xs : List ℕ) (at : ℕ) (ys : List ℕ) → written (x ∷ xs) (suc at) ys ≡ x ∷ written xs at ys
unfolding written
written-cons x xs at ys = simp (unary_clauses, suc-add)

written-fill : (at : ℕ) (ys : List ℕ) → written [] (suc at) ys ≡ 0 ∷ written [] at ys
unfolding written
written-fill at ys = simp (unary_clauses, suc-add, drop-nil)

written-front : (xs ys : List ℕ) → written xs 0 ys ≡ ys ++ drop (length ys) xs
unfolding written
written-front xs ys = simp zero-add

front-over : (ys xs : List ℕ) (p : ℕ) → Over (reach 0 (map Some ys) p) (held xs p) (held (ys ++ drop (length ys) xs) p)
front-over [] xs p = inl refl
front-over (y ∷ ys) xs zero = refl
front-over (y ∷ ys) [] (suc p) = rw (ne_eqb 0 (suc p) (omega arith), reach-suc 0 (map Some ys) p) (rw (drop-nil (length ys)) at (front-over ys [] p))
front-over (y ∷ ys) (x ∷ xs) (suc p) = rw (ne_eqb 0 (suc p) (omega arith), reach-suc 0 (map Some ys) p) (front-over ys xs p)

pub written_over : (xs : List ℕ) (at : ℕ) (ys : List ℕ) (p : ℕ) → Over (reach at (map Some ys) p) (held xs p) (held (written xs at ys) p)
written_over xs zero ys p = rw (written-front xs ys) (front-over ys xs p)
written_over [] (suc at) ys zero = rw (written-fill at ys, reach-before (suc at) (map Some ys) 0 (omega arith)) (inr (refl, refl))
written_over [] (suc at) ys (suc p) = rw (written-fill at ys, reach-suc at (map Some ys) p) (written_over [] at ys p)
written_over (x ∷ xs) (suc at) ys zero = rw (written-cons x xs at ys, reach-before (suc at) (map Some ys) 0 (omega arith)) (inl refl)
written_over (x ∷ xs) (suc at) ys (suc p) = rw (written-cons x xs at ys, reach-suc at (map Some ys) p) (written_over xs at ys p)

-- two changes, the later one over the earlier
pub near-over : (r o m n : Option ℕ) → Over r o m → Near m n → Over r o n
near-over None o m n (inl e) (inl f) = inl (f ∙ e)
near-over None o m n (inl e) (inr f) = inr (sym e ∙ f.0, f.1)
near-over None o m n (inr e) (inl f) = inr (e.0, f ∙ e.1)
near-over None o m n (inr e) (inr f) = inr (e.0, f.1)
near-over (Some b) o m n e (inl f) = f ∙ e
near-over (Some b) o m n e (inr f) = absurd (none-some f.0 e)

-- of the byte that each has for a place, the later one's
pub over-over : (r q o m n : Option ℕ) → Over r o m → Over q m n → Over (option_or q r) o n
over-over r None o m n a b = near-over r o m n a b
over-over r (Some x) o m n a b = b

-- a patch is laid byte by byte
pub lay-over : (xs : List ℕ) (i : ℕ) (os : Patch) (q : ℕ) → Over (reach i os q) (held xs q) (held (lay xs i os) q)
lay-over xs i [] q = inl refl
lay-over xs i (None ∷ os) q = lay-over xs (suc i) os q
lay-over xs i (Some b ∷ os) q =
    let here = written_over (lay xs (suc i) os) i (b ∷ []) q in
    cond_both (eqb i q) _ _ (λ r. Over r (held xs q) (held (written (lay xs (suc i) os) i (b ∷ [])) q))
    (λ e. rw e at here) (λ e. near-over _ _ _ _ (lay-over xs (suc i) os q) (rw e at here))

-- a resize
cut-cons : (n x : ℕ) (xs : List ℕ) → cut (suc n) (x ∷ xs) ≡ x ∷ cut n xs
unfolding cut
cut-cons n x xs = simp unary_clauses

cut-fill : (n : ℕ) → cut (suc n) [] ≡ 0 ∷ cut n []
unfolding cut
cut-fill n = simp unary_clauses

cut-none : (xs : List ℕ) → cut 0 xs ≡ []
unfolding cut
cut-none xs = refl

pub cut-near : (n : ℕ) (xs : List ℕ) (q : ℕ) → (held (cut n xs) q ≡ held xs q) ⊎ Blank (held (cut n xs) q)
cut-near zero xs q = rw (cut-none xs) (inr tt)
cut-near (suc n) [] zero = rw (cut-fill n) (inr refl)
cut-near (suc n) [] (suc q) = rw (cut-fill n) (cut-near n [] q)
cut-near (suc n) (x ∷ xs) zero = rw (cut-cons n x xs) (inl refl)
cut-near (suc n) (x ∷ xs) (suc q) = rw (cut-cons n x xs) (cut-near n xs q)

-- a selection keeps a byte or does not
pub reach-kept : (s : List Bool) (i : ℕ) (os : Patch) (q : ℕ) → (reach i (kept s os) q ≡ reach i os q) ⊎ (reach i (kept s os) q ≡ None)
reach-kept s i [] q = inl refl
reach-kept [] i (o ∷ os) q = inr (none_kept i (o ∷ os))
  where
    none_kept : (i : ℕ) (os : Patch) → reach i (kept [] os) q ≡ None
    none_kept i [] = refl
    none_kept i (o ∷ os) = none_kept (suc i) os
reach-kept (true ∷ s) i (None ∷ os) q = reach-kept s (suc i) os q
reach-kept (false ∷ s) i (None ∷ os) q = reach-kept s (suc i) os q
reach-kept (true ∷ s) i (Some b ∷ os) q = grind (arith, reach-kept s (suc i) os q)
reach-kept (false ∷ s) i (Some b ∷ os) q = grind (arith, nat_tests, reach-kept s (suc i) os q, reach-before (suc i) (kept s os) q)

-- a clearing takes the bytes of the places that it hits
pub reach-cleared : (hit : ℕ → Bool) (i : ℕ) (os : Patch) (q : ℕ) → reach i (cleared hit i os) q ≡ cond (hit q) None (reach i os q)
reach-cleared hit i [] q = grind arith
reach-cleared hit i (None ∷ os) q = grind (arith, reach-cleared hit (suc i) os q)
reach-cleared hit i (Some b ∷ os) q = grind (arith, nat_tests, reach-cleared hit (suc i) os q)

pub idle-reach : (i : ℕ) (os : Patch) (q : ℕ) → idle os ≡ true → reach i os q ≡ None
idle-reach i [] q e = refl
idle-reach i (None ∷ os) q e = idle-reach (suc i) os q e
idle-reach i (Some b ∷ os) q e = cc

-- the places that a patch has bytes for
pub covers-reach : (i : ℕ) (f : Patch) (q : ℕ) → covers i f q ≡ is_some (reach i f q)
covers-reach i [] q = refl
covers-reach i (None ∷ f) q = covers-reach (suc i) f q
covers-reach i (Some b ∷ f) q = grind (arith, covers-reach (suc i) f q)

pub covers-shift : (d i : ℕ) (f : Patch) (q : ℕ) → covers (d + i) f (d + q) ≡ covers i f q
covers-shift d i f q = covers-reach (d + i) f (d + q) ∙ ap is_some (reach-shift d i f q) ∙ sym (covers-reach i f q)
