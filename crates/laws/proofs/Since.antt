-- What a crash would replay of one generation: its changes since its last successful marker, and how the log's own changes
-- change them.
use Rattle.std.proofs.Common.{◌≡◌, ℕ, suc, ◌+◌, Bool, true, false, cond, ◌&&◌, eqb, leb, ◌⊎◌, List, [], ◌∷◌, ◌++◌, length, sym, refl, ap, ◌∙◌, inl, inr, add-suc, arith}
use Rattle.std.proofs.lemmas.Bool.Decides.{nat_tests}
use Rattle.std.specs.List.{AllByRecursion, fold}
use Rattle.std.proofs.lemmas.Bool.{ne_eqb, cases_eq, cond_both, false≢true}
use Rattle.content.specs.Bytes.{limit}
use Rattle.content.specs.Patches.{Patch}
use Rattle.steps.specs.Log.{Entry, Wrote, Resized, Marked, generation_in, recorded, cleared, covers, idle, tightened, resizes, fixed, dropped, retires, is_marker, settled}
use Rattle.draw.specs.declared.select.PartialWriteMode.TheVariants.{Prefix}
use Rattle.laws.proofs.Places.{covers-shift}
use Rattle.laws.proofs.Stands.{Change, Put, Cut, cleared_all, Calm, appended}

-- one more entry, for a generation whose files have a header of d bytes: what would end past the limit does nothing
abbrev pub noted : (g d : ℕ) → List Change → Entry → List Change
noted g d w (Wrote h o os m r) = cond (eqb h g && leb (d + o + length os) limit) (Put (d + o) os (eqb r 65536) ∷ w) w
noted g d w (Resized h len) = cond (eqb h g && leb (d + len) limit) (Cut (d + len) ∷ w) w
noted g d w (Marked h t s) = cond (eqb h g && s) [] w

abbrev pub since_from : (g d : ℕ) → List Change → List Entry → List Change
since_from g d w [] = w
since_from g d w (e ∷ es) = since_from g d (noted g d w e) es

abbrev pub since : (g d : ℕ) → List Entry → List Change
since g d es = since_from g d [] es

pub since-append : (g d : ℕ) (w : List Change) (es fs : List Entry) → since_from g d w (es ++ fs) ≡ since_from g d (since_from g d w es) fs
since-append g d w [] fs = refl
since-append g d w (e ∷ es) fs = since-append g d (noted g d w e) es fs

pub noted_other : (g d : ℕ) (w : List Change) (e : Entry) → (generation_in e ≡ g → ⊥) → noted g d w e ≡ w
noted_other g d w (Wrote h o os m r) n = rw (ne_eqb h g n)
noted_other g d w (Resized h len) n = rw (ne_eqb h g n)
noted_other g d w (Marked h t s) n = rw (ne_eqb h g n)

-- by whether a generation is the one
pub split : (g h : ℕ) (P : ℕ → Type 0) → P g → ((h ≡ g → ⊥) → P h) → P h
split g h P p q = go (cases_eq h g)
  where
    go : (h ≡ g) ⊎ (h ≡ g → ⊥) → P h
    go (inl e) = rw e p
    go (inr n) = q n

-- Recording.
pub since-recorded : (g d : ℕ) (es : List Entry) (e : Entry) → since g d (recorded es e) ≡ noted g d (since g d es) e
since-recorded g d es e = since-append g d [] es (e ∷ [])

pub since-recorded-other : (g d : ℕ) (es : List Entry) (e : Entry) → (generation_in e ≡ g → ⊥) → since g d (recorded es e) ≡ since g d es
since-recorded-other g d es e n = since-recorded g d es e ∙ noted_other g d (since g d es) e n

-- Dropping.
pub since-dropped : (g d : ℕ) (w : List Change) (es : List Entry) → since_from g d w (dropped es g) ≡ w
since-dropped g d w [] = refl
since-dropped g d w (e ∷ es) = grind (arith, nat_tests, noted_other g d w e, since-dropped g d w es)

pub since-dropped-other : (g d h : ℕ) → (h ≡ g → ⊥) → (w : List Change) (es : List Entry) → since_from g d w (dropped es h) ≡ since_from g d w es
since-dropped-other g d h n w [] = refl
since-dropped-other g d h n w (e ∷ es) =
    let more = λ (v : List Change). since-dropped-other g d h n v es in
    grind (arith, nat_tests, n, noted_other g d w e, more w, more (noted g d w e))

pub since-dropped-all : (g d : ℕ) (es : List Entry) (gs : List ℕ) → AllByRecursion (λ h. h ≡ g → ⊥) gs → since g d (fold dropped es gs) ≡ since g d es
since-dropped-all g d es [] a = refl
since-dropped-all g d es (h ∷ gs) a = since-dropped-all g d (dropped es h) gs a.1 ∙ since-dropped-other g d h a.0 [] es

-- what has nothing to replay has nothing after a drop
pub since-dropped-none : (g d : ℕ) (es : List Entry) (gs : List ℕ) → since g d es ≡ [] → since g d (fold dropped es gs) ≡ []
since-dropped-none g d es [] e = e
since-dropped-none g d es (h ∷ gs) e =
    since-dropped-none g d (dropped es h) gs
    (split g h (λ x. since g d (dropped es x) ≡ []) (since-dropped g d [] es) (λ n. since-dropped-other g d h n [] es ∙ e))

-- Settling leaves what a crash would replay. Where a successful marker of the ticket and the generation follows, what came
-- before it does not count.
mark-resets : (g d t : ℕ) (es : List Entry) → retires t g es ≡ true → (v w : List Change) → since_from g d v es ≡ since_from g d w es
mark-resets g d t [] e v w = absurd (false≢true e)
mark-resets g d t (Wrote h o os m r ∷ es) e v w = mark-resets g d t es e _ _
mark-resets g d t (Resized h len ∷ es) e v w = mark-resets g d t es e _ _
mark-resets g d t (Marked h u s ∷ es) e v w = grind (arith, mark-resets g d t es)

-- a marker of another ticket is no marker of this one
retires-past : (t g : ℕ) (e : Entry) (es : List Entry) → is_marker t e ≡ false → retires t g (e ∷ es) ≡ retires t g es
retires-past t g (Wrote h o os m r) es k = refl
retires-past t g (Resized h len) es k = refl
retires-past t g (Marked h u s) es k = rw k

-- the ticket's marker at the front, which is not a successful one of the generation, changes nothing
noted-marker : (g d t : ℕ) (w : List Change) (e : Entry) (es : List Entry) → is_marker t e ≡ true → retires t g (e ∷ es) ≡ false → (noted g d w e ≡ w) × (retires t g es ≡ false)
noted-marker g d t w (Wrote h o os m r) es k f = absurd (false≢true k)
noted-marker g d t w (Resized h len) es k f = absurd (false≢true k)
noted-marker g d t w (Marked h u s) es k f = grind arith

settled-keeps : (g d t : ℕ) (es : List Entry) → retires t g es ≡ false → (w : List Change) → since_from g d w (settled es t) ≡ since_from g d w es
settled-keeps g d t [] f w = refl
settled-keeps g d t (e ∷ es) f w = grind (arith, noted-marker g d t w e es, retires-past t g e es, noted_other g d w e, settled-keeps g d t es)

settled-resets : (g d t : ℕ) (es : List Entry) → retires t g es ≡ true → (w : List Change) → since_from g d [] (settled es t) ≡ since_from g d w es
settled-resets g d t [] f w = absurd (false≢true f)
settled-resets g d t (e ∷ es) f w = go (is_marker t e) (retires t (generation_in e) es) refl refl (settled-resets g d t es)
  where
    -- the marker itself: it empties, or another one follows
    here : (e : Entry) → is_marker t e ≡ true → retires t g (e ∷ es) ≡ true → since_from g d [] es ≡ since_from g d (noted g d w e) es
    here (Wrote h o os m r) k f = absurd (false≢true k)
    here (Resized h len) k f = absurd (false≢true k)
    here (Marked h u s) k f = two (eqb u t) (eqb h g) s f
      where
        two : (x y s : Bool) → cond (x && (y && s)) true (retires t g es) ≡ true → since_from g d [] es ≡ since_from g d (cond (y && s) [] w) es
        two x true true f = refl
        two true true false f = mark-resets g d t es f [] w
        two false true false f = mark-resets g d t es f [] w
        two true false s f = mark-resets g d t es f [] w
        two false false s f = mark-resets g d t es f [] w

    go : (x y : Bool) → is_marker t e ≡ x → retires t (generation_in e) es ≡ y → (retires t g es ≡ true → (v : List Change) → since_from g d [] (settled es t) ≡ since_from g d v es)
        → since_from g d [] (cond x es (cond y (settled es t) (e ∷ settled es t))) ≡ since_from g d (noted g d w e) es
    go true y k r more = here e k f
    go false true k r more = more (sym (retires-past t g e es k) ∙ f) (noted g d w e)
    go false false k r more =
        let past : retires t g es ≡ true = sym (retires-past t g e es k) ∙ f in
        let other : generation_in e ≡ g → ⊥ = λ q. false≢true (sym r ∙ ap (λ (x : ℕ). retires t x es) q ∙ past) in
        ap (λ v. since_from g d v (settled es t)) (noted_other g d [] e other) ∙ rw (noted_other g d w e other) (more past w)

pub since-settled : (g d t : ℕ) (es : List Entry) → since g d (settled es t) ≡ since g d es
since-settled g d t es = grind (arith, settled-resets g d t es, settled-keeps g d t es)

-- Fixing.

-- a clearing by offsets, and by places
abbrev Alike : ℕ → (ℕ → Bool) → (ℕ → Bool) → Type 0
Alike d hit hat = (q : ℕ) → hat (d + q) ≡ hit q

cleared-shift : (d : ℕ) (hit hat : ℕ → Bool) → Alike d hit hat → (o : ℕ) (os : Patch) → cleared hat (d + o) os ≡ cleared hit o os
cleared-shift d hit hat ok o [] = refl
cleared-shift d hit hat ok o (x ∷ os) = rw (ok o, ← add-suc d o, cleared-shift d hit hat ok (suc o) os)

cleared-length : (hit : ℕ → Bool) (o : ℕ) (os : Patch) → length (cleared hit o os) ≡ length os
cleared-length hit o [] = refl
cleared-length hit o (x ∷ os) = ap suc (cleared-length hit (suc o) os)

-- one write that is cleared, and then noted
noted-cleared : (g d : ℕ) (hit hat : ℕ → Bool) → Alike d hit hat → (w : List Change) (h o : ℕ) (os : Patch) (m : _) (r : ℕ) → h ≡ g
    → cond (idle (cleared hit o os)) (cleared_all hat w) (noted g d (cleared_all hat w) (Wrote h o (cleared hit o os) m r)) ≡ cleared_all hat (noted g d w (Wrote h o os m r))
noted-cleared g d hit hat ok w h o os m r q = grind (arith, nat_tests, cleared-length hit o os, cleared-shift d hit hat ok o os)

pub since-tightened : (g d : ℕ) (hit hat : ℕ → Bool) → Alike d hit hat → (w : List Change) (es : List Entry)
    → since_from g d (cleared_all hat w) (tightened g hit es) ≡ cleared_all hat (since_from g d w es)
since-tightened g d hit hat ok w [] = refl
since-tightened g d hit hat ok w (Wrote h o os m r ∷ es) =
    let e = Wrote h o os m r in
    let more = λ (v : List Change). since-tightened g d hit hat ok v es in
    grind (arith, nat_tests, noted-cleared g d hit hat ok w h o os m r, noted_other g d w e, noted_other g d (cleared_all hat w) e, more w, more (noted g d w e))
since-tightened g d hit hat ok w (Resized h len ∷ es) = grind (arith, since-tightened g d hit hat ok (noted g d w (Resized h len)) es)
since-tightened g d hit hat ok w (Marked h t s ∷ es) = grind (arith, since-tightened g d hit hat ok (noted g d w (Marked h t s)) es)

pub since-tightened-other : (g d h : ℕ) → (h ≡ g → ⊥) → (hit : ℕ → Bool) (w : List Change) (es : List Entry) → since_from g d w (tightened h hit es) ≡ since_from g d w es
since-tightened-other g d h n hit w [] = refl
since-tightened-other g d h n hit w (Wrote k o os m r ∷ es) =
    let e = Wrote k o os m r in
    let more = λ (v : List Change). since-tightened-other g d h n hit v es in
    grind (arith, nat_tests, n, noted_other g d w e, noted_other g d w (Wrote k o (cleared hit o os) m r), more w, more (noted g d w e))
since-tightened-other g d h n hit w (Resized k len ∷ es) = since-tightened-other g d h n hit (noted g d w (Resized k len)) es
since-tightened-other g d h n hit w (Marked k t s ∷ es) = since-tightened-other g d h n hit (noted g d w (Marked k t s)) es

-- where the log has no resize of a generation, none is replayed
pub calm-since : (g d : ℕ) (w : List Change) (es : List Entry) → resizes g es ≡ false → Calm w → Calm (since_from g d w es)
calm-since g d w [] e h = h
calm-since g d w (Wrote k o os m r ∷ es) e h =
    calm-since g d (noted g d w (Wrote k o os m r)) es e (cond_both (eqb k g && leb (d + o + length os) limit) (Put (d + o) os (eqb r 65536) ∷ w) w Calm (λ _. h) (λ _. h))
calm-since g d w (Resized k len ∷ es) e h =
    let none : (eqb k g ≡ false) × (resizes g es ≡ false) = grind arith in
    rw none.0 (calm-since g d w es none.1 h)
calm-since g d w (Marked k t s ∷ es) e h = calm-since g d (noted g d w (Marked k t s)) es e (cond_both (eqb k g && s) [] w Calm (λ _. tt) (λ _. h))

-- a fixing of a range that has a byte and ends within the limit
pub since-fixed : (g d : ℕ) (es : List Entry) (o : ℕ) (f : Patch) → idle f ≡ false → leb (d + o + length f) limit ≡ true
    → since g d (fixed es g o f) ≡ appended (resizes g es) (d + o) f (cleared_all (covers (d + o) f) (since g d es))
since-fixed g d es o f busy fits =
    grind (arith, nat_tests, since-append g d [] (tightened g (covers o f) es), since-tightened g d (covers o f) (covers (d + o) f) (λ q. covers-shift d o f q) [] es)

pub since-fixed-other : (g d h : ℕ) → (h ≡ g → ⊥) → (es : List Entry) (o : ℕ) (f : Patch) → since g d (fixed es h o f) ≡ since g d es
since-fixed-other g d h n es o f =
    grind (arith, n, since-append g d [] (tightened h (covers o f) es), noted_other g d (since g d es) (Wrote h o f Prefix 65536), since-tightened-other g d h n (covers o f) [] es)
