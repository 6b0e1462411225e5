-- One place of one file: what holds between its cell, its durable byte and the changes that a crash would replay, and that
-- a crash then leaves what the cell allows.
use Rattle.std.proofs.Common.{◌≡◌, ℕ, suc, Bool, true, false, cond, ◌⊎◌, List, [], ◌∷◌, is_some, Some, None, Option, refl, ap, ◌∙◌, inl, inr, arith}
use Rattle.std.specs.List.{ContainsAt}
use Rattle.std.proofs.lemmas.Bool.{cond_both}
use Rattle.content.specs.Bytes.{cut}
use Rattle.content.specs.Patches.{Patch, lay}
use Rattle.steps.specs.Log.{cleared, covers, idle, kept}
use Rattle.laws.specs.Pages.{held, reach, Cell, settled_at, fix_cell, put_cell, Blank, Allowed, as_fixed, as_put, blank_marked, blank_unfixed}
use Rattle.laws.proofs.Places.{Near, Over, none-some, lay-over, cut-near, reach-kept, reach-cleared, idle-reach, covers-reach}

-- What a crash would replay of one file, the newest change first: the loose bytes of a write from a place on, and whether all
-- of them are certain to be kept; a resize, by the length with the header.
pub data Change : Type 0 where
  Put : (place : ℕ) (loose : Patch) (certain : Bool) → Change
  Cut : (length : ℕ) → Change

-- what such a replay may make of a content: each write keeps the bytes of some selection
abbrev pub Replays : List Change → List ℕ → List ℕ → Type 0
Replays [] xs ys = ys ≡ xs
Replays (Put i os k ∷ w) xs ys = (zs : List ℕ) × Replays w xs zs × ((s : List Bool) × (ys ≡ lay zs i (kept s os)) × (k ≡ true → kept s os ≡ os))
Replays (Cut n ∷ w) xs ys = (zs : List ℕ) × Replays w xs zs × (ys ≡ cut n zs)

-- a byte that a place may hold without being blank
abbrev pub Firm : Cell → Option ℕ → Type 0
Firm c None = ⊥
Firm c (Some b) = (c.fixed ≡ Some b) ⊎ ContainsAt c.puts b

abbrev Fair : Cell → Option ℕ → Type 0
Fair c o = Firm c o ⊎ Blank o

-- the byte that a change has for the place, if any, is such a byte
abbrev pub Known : Cell → Option ℕ → Type 0
Known c None = Unit {0}
Known c (Some b) = Firm c (Some b)

abbrev pub Bytes : ℕ → Cell → List Change → Type 0
Bytes p c [] = Unit {0}
Bytes p c (Put i os k ∷ w) = Known c (reach i os p) × Bytes p c w
Bytes p c (Cut n ∷ w) = Bytes p c w

-- no resize since the last certain write of the byte
abbrev pub Safe : ℕ → ℕ → List Change → Type 0
Safe p b [] = Unit {0}
Safe p b (Put i os k ∷ w) = ((k ≡ true) × (reach i os p ≡ Some b)) ⊎ Safe p b w
Safe p b (Cut n ∷ w) = ⊥

-- a fixed byte is durable; where none is fixed, the place is blank
abbrev pub Holds : Option ℕ → Option ℕ → Type 0
Holds None o = Blank o
Holds (Some b) o = o ≡ Some b

-- where no resize was recorded since the fixing, none comes after the last certain write of the fixed byte
abbrev pub Covered : Option ℕ → Bool → ℕ → List Change → Type 0
Covered None m p w = Unit {0}
Covered (Some b) true p w = Unit {0}
Covered (Some b) false p w = Safe p b w

pub record Stands (p : ℕ) (c : Cell) (o : Option ℕ) (w : List Change) : Type 0 where
  pub holds : Holds c.fixed o
  pub bytes : Bytes p c w
  pub covered : Covered c.fixed c.mark p w

-- The crash.

lay-firm : (c : Cell) (r o n : Option ℕ) → Known c r → Over r o n → Firm c o → Firm c n
lay-firm c None o n k (inl e) h = rw e h
lay-firm c None o n k (inr e) h = absurd (rw e.0 at h)
lay-firm c (Some b) o n k e h = rw e k

lay-fair : (c : Cell) (r o n : Option ℕ) → Known c r → Over r o n → Fair c o → Fair c n
lay-fair c None o n k (inl e) h = rw e h
lay-fair c None o n k (inr e) h = rw e.1 (inr refl)
lay-fair c (Some b) o n k e h = rw e (inl k)

known_kept : (c : Cell) (p i : ℕ) (os : Patch) (s : List Bool) → Known c (reach i os p) → Known c (reach i (kept s os) p)
known_kept c p i os s h = go (reach-kept s i os p)
  where
    go : (reach i (kept s os) p ≡ reach i os p) ⊎ (reach i (kept s os) p ≡ None) → Known c (reach i (kept s os) p)
    go (inl e) = rw e h
    go (inr e) = rw e tt

fair : (p : ℕ) (c : Cell) (xs ys : List ℕ) (w : List Change) → Replays w xs ys → Holds c.fixed (held xs p) → Bytes p c w → Fair c (held ys p)
fair p c xs ys [] r h bs = rw r (go c.fixed refl h)
  where
    go : (f : Option ℕ) → c.fixed ≡ f → Holds f (held xs p) → Fair c (held xs p)
    go None e k = inr k
    go (Some b) e k = rw k (inl (inl e))
fair p c xs ys (Put i os k ∷ w) r h bs =
    rw r.2.1
    (lay-fair c _ _ _ (known_kept c p i os r.2.0 bs.0) (lay-over r.0 i (kept r.2.0 os) p) (fair p c xs r.0 w r.1 h bs.1))
fair p c xs ys (Cut n ∷ w) r h bs = rw r.2 (go (cut-near n r.0 p) (fair p c xs r.0 w r.1 h bs))
  where
    go : (held (cut n r.0) p ≡ held r.0 p) ⊎ Blank (held (cut n r.0) p) → Fair c (held r.0 p) → Fair c (held (cut n r.0) p)
    go (inl e) k = rw e k
    go (inr e) k = inr e

over-firm : (c : Cell) (b : ℕ) (r o n : Option ℕ) → c.fixed ≡ Some b → r ≡ Some b → Over r o n → Firm c n
over-firm c b r o n f e v = let m : n ≡ Some b = rw e at v in rw m (inl f)

firm : (p b : ℕ) (c : Cell) (xs ys : List ℕ) (w : List Change) → Replays w xs ys → c.fixed ≡ Some b → held xs p ≡ Some b → Bytes p c w → Safe p b w → Firm c (held ys p)
firm p b c xs ys [] r f h bs s = rw (r, h) (inl f)
firm p b c xs ys (Put i os k ∷ w) r f h bs (inl e) =
    rw (r.2.1, r.2.2 e.0) (over-firm c b _ _ _ f e.1 (lay-over r.0 i os p))
firm p b c xs ys (Put i os k ∷ w) r f h bs (inr s) =
    rw r.2.1
    (lay-firm c _ _ _ (known_kept c p i os r.2.0 bs.0) (lay-over r.0 i (kept r.2.0 os) p) (firm p b c xs r.0 w r.1 f h bs.1 s))
firm p b c xs ys (Cut n ∷ w) r f h bs s = absurd s

from-firm : (c : Cell) (o : Option ℕ) → Firm c o → Allowed c o
from-firm c None h = absurd h
from-firm c (Some b) (inl e) = as_fixed b refl e
from-firm c (Some b) (inr e) = as_put b refl e

-- a crash leaves what the cell allows
pub keeps : (p : ℕ) (c : Cell) (xs ys : List ℕ) (w : List Change) → Replays w xs ys → Stands p c (held xs p) w → Allowed c (held ys p)
keeps p c xs ys w r st = go c.fixed c.mark refl refl st.holds st.covered (fair p c xs ys w r st.holds st.bytes)
  where
    go : (f : Option ℕ) (m : Bool) → c.fixed ≡ f → c.mark ≡ m → Holds f (held xs p) → Covered f m p w → Fair c (held ys p) → Allowed c (held ys p)
    go f m e k h v (inl a) = from-firm c _ a
    go None m e k h v (inr a) = blank_unfixed a e
    go (Some b) true e k h v (inr a) = blank_marked a k
    go (Some b) false e k h v (inr a) = from-firm c _ (firm p b c xs ys w r e h st.bytes v)

-- The changes of a page, of the durable bytes and of what a crash would replay.

-- a content that was just fixed whole
pub whole-stands : (p : ℕ) (o : Option ℕ) → Stands p (settled_at o) o []
whole-stands p None = record { holds = tt; bytes = tt; covered = tt }
whole-stands p (Some b) = record { holds = refl; bytes = tt; covered = tt }

-- nothing to replay
pub bare-stands : (p : ℕ) (c : Cell) (o : Option ℕ) (w : List Change) → Stands p c o w → Stands p c o []
bare-stands p c o w st = record { holds = st.holds; bytes = tt; covered = none c.fixed c.mark }
  where
    none : (f : Option ℕ) (m : Bool) → Covered f m p []
    none None m = tt
    none (Some b) true = tt
    none (Some b) false = tt

-- a recorded write
known_more : (c : Cell) (r : Option ℕ) (o : Option ℕ) → Known c o → Known (put_cell r c) o
known_more c None o k = k
known_more c (Some b) None k = tt
known_more c (Some b) (Some a) (inl e) = inl e
known_more c (Some b) (Some a) (inr h) = inr (suc h.0, omega (arith, h.1), h.2)

bytes-map : (p : ℕ) (c d : Cell) → ((o : Option ℕ) → Known c o → Known d o) → (w : List Change) → Bytes p c w → Bytes p d w
bytes-map p c d g [] h = tt
bytes-map p c d g (Put i os k ∷ w) h = (g (reach i os p) h.0, bytes-map p c d g w h.1)
bytes-map p c d g (Cut n ∷ w) h = bytes-map p c d g w h

known-put : (c : Cell) (r : Option ℕ) → Known (put_cell r c) r
known-put c None = tt
known-put c (Some b) = inr (0, omega arith, λ d. refl)

covered_more : (f : Option ℕ) (m : Bool) (p i : ℕ) (os : Patch) (k : Bool) (w : List Change) → Covered f m p w → Covered f m p (Put i os k ∷ w)
covered_more None m p i os k w h = tt
covered_more (Some b) true p i os k w h = tt
covered_more (Some b) false p i os k w h = inr h

same-put : (p : ℕ) (c : Cell) (r : Option ℕ) (o : Option ℕ) (w : List Change) → Holds c.fixed o → Covered c.fixed c.mark p w
    → Holds (put_cell r c).fixed o × Covered (put_cell r c).fixed (put_cell r c).mark p w
same-put p c None o w h v = (h, v)
same-put p c (Some b) o w h v = (h, v)

pub put-stands : (p : ℕ) (c : Cell) (o : Option ℕ) (w : List Change) (i : ℕ) (os : Patch) (k : Bool) → Stands p c o w → Stands p (put_cell (reach i os p) c) o (Put i os k ∷ w)
put-stands p c o w i os k st =
    let r = reach i os p in
    let s = same-put p c r o (Put i os k ∷ w) st.holds (covered_more c.fixed c.mark p i os k w st.covered) in
    record { holds = s.0; bytes = (known-put c r, bytes-map p c (put_cell r c) (known_more c r) w st.bytes); covered = s.1 }

-- a recorded resize: it is replayed, or it would end past the limit
abbrev marked : Cell → Cell
marked c = record { fixed = c.fixed; puts = c.puts; mark = true }

covered-marked : (f : Option ℕ) (p : ℕ) (w : List Change) → Covered f true p w
covered-marked None p w = tt
covered-marked (Some b) p w = tt

known-marked : (c : Cell) (o : Option ℕ) → Known c o → Known (marked c) o
known-marked c None k = tt
known-marked c (Some b) k = k

pub mark-stands : (p : ℕ) (c : Cell) (o : Option ℕ) (w v : List Change) → Bytes p (marked c) v → Stands p c o w → Stands p (marked c) o v
mark-stands p c o w v bs st = record { holds = st.holds; bytes = bs; covered = covered-marked c.fixed p v }

pub mark-bytes : (p : ℕ) (c : Cell) (w : List Change) → Bytes p c w → Bytes p (marked c) w
mark-bytes p c w h = bytes-map p c (marked c) (known-marked c) w h

-- A fixing.
abbrev pub cleared_all : (ℕ → Bool) → List Change → List Change
cleared_all hit [] = []
cleared_all hit (Put i os k ∷ w) = cond (idle (cleared hit i os)) (cleared_all hit w) (Put i (cleared hit i os) k ∷ cleared_all hit w)
cleared_all hit (Cut n ∷ w) = Cut n ∷ cleared_all hit w

-- it hits the place: no byte is left there
bytes-hit : (p : ℕ) (c : Cell) (hit : ℕ → Bool) (w : List Change) → hit p ≡ true → Bytes p c (cleared_all hit w)
bytes-hit p c hit [] e = tt
bytes-hit p c hit (Put i os k ∷ w) e = cond_both (idle (cleared hit i os)) _ _ (Bytes p c) (λ _. bytes-hit p c hit w e) (λ _. (rw (reach-cleared hit i os p, e) tt, bytes-hit p c hit w e))
bytes-hit p c hit (Cut n ∷ w) e = bytes-hit p c hit w e

-- it misses the place: what is left there is as it was
bytes-miss : (p : ℕ) (c : Cell) (hit : ℕ → Bool) (w : List Change) → hit p ≡ false → Bytes p c w → Bytes p c (cleared_all hit w)
bytes-miss p c hit [] e bs = tt
bytes-miss p c hit (Put i os k ∷ w) e bs = cond_both (idle (cleared hit i os)) _ _ (Bytes p c) (λ _. bytes-miss p c hit w e bs.1) (λ _. (rw (reach-cleared hit i os p, e) bs.0, bytes-miss p c hit w e bs.1))
bytes-miss p c hit (Cut n ∷ w) e bs = bytes-miss p c hit w e bs

safe-miss : (p b : ℕ) (hit : ℕ → Bool) (w : List Change) → hit p ≡ false → Safe p b w → Safe p b (cleared_all hit w)
safe-miss p b hit [] e s = tt
safe-miss p b hit (Put i os k ∷ w) e (inl s) = go (idle (cleared hit i os)) refl
  where
    at_p : reach i (cleared hit i os) p ≡ Some b
    at_p = rw (reach-cleared hit i os p, e) s.1

    go : (t : Bool) → idle (cleared hit i os) ≡ t → Safe p b (cond t (cleared_all hit w) (Put i (cleared hit i os) k ∷ cleared_all hit w))
    go true f = absurd (none-some (idle-reach i (cleared hit i os) p f) at_p)
    go false f = inl (s.0, at_p)
safe-miss p b hit (Put i os k ∷ w) e (inr s) = cond_both (idle (cleared hit i os)) _ _ (Safe p b) (λ _. safe-miss p b hit w e s) (λ _. inr (safe-miss p b hit w e s))
safe-miss p b hit (Cut n ∷ w) e s = absurd s

covered-miss : (f : Option ℕ) (m : Bool) (p : ℕ) (hit : ℕ → Bool) (w : List Change) → hit p ≡ false → Covered f m p w → Covered f m p (cleared_all hit w)
covered-miss None m p hit w e v = tt
covered-miss (Some b) true p hit w e v = tt
covered-miss (Some b) false p hit w e v = safe-miss p b hit w e v

-- no resize
abbrev pub Calm : List Change → Type 0
Calm [] = Unit {0}
Calm (Put i os k ∷ w) = Calm w
Calm (Cut n ∷ w) = ⊥

calm-safe : (p b : ℕ) (hit : ℕ → Bool) (w : List Change) → Calm w → Safe p b (cleared_all hit w)
calm-safe p b hit [] h = tt
calm-safe p b hit (Put i os k ∷ w) h = cond_both (idle (cleared hit i os)) _ _ (Safe p b) (λ _. calm-safe p b hit w h) (λ _. inr (calm-safe p b hit w h))
calm-safe p b hit (Cut n ∷ w) h = absurd h

holds-near : (f o n : Option ℕ) → Holds f o → Near o n → Holds f n
holds-near f o n h (inl e) = rw e h
holds-near None o n h (inr e) = rw e.1 refl
holds-near (Some b) o n h (inr e) = absurd (none-some e.0 h)

pub busy : (i : ℕ) (f : Patch) (p b : ℕ) → reach i f p ≡ Some b → idle f ≡ false
busy i f p b e = grind (arith, idle-reach i f p)

-- the range is appended as a certain write, or there is no resize to be replayed
abbrev pub appended : Bool → ℕ → Patch → List Change → List Change
appended t i f w = cond t (Put i f true ∷ w) w

pub fix-stands : (p : ℕ) (c : Cell) (o n : Option ℕ) (w : List Change) (i : ℕ) (f : Patch) (t : Bool) → (t ≡ false → Calm w)
    → Over (reach i f p) o n → Stands p c o w → Stands p (fix_cell (reach i f p) c) n (appended t i f (cleared_all (covers i f) w))
fix-stands p c o n w i f t calm v st = go (reach i f p) refl v t calm
  where
    go : (r : Option ℕ) → reach i f p ≡ r → Over r o n → (t : Bool) → (t ≡ false → Calm w) → Stands p (fix_cell r c) n (appended t i f (cleared_all (covers i f) w))
    go None e v t calm =
        let miss : covers i f p ≡ false = covers-reach i f p ∙ ap is_some e in
        let bs = bytes-miss p c (covers i f) w miss st.bytes in
        let cv = covered-miss c.fixed c.mark p (covers i f) w miss st.covered in
        let hs = holds-near c.fixed o n st.holds v in
        two t hs bs cv
      where
        two : (t : Bool) → Holds c.fixed n → Bytes p c (cleared_all (covers i f) w) → Covered c.fixed c.mark p (cleared_all (covers i f) w)
            → Stands p c n (appended t i f (cleared_all (covers i f) w))
        two true hs bs cv = record { holds = hs; bytes = (rw e tt, bs); covered = covered_more c.fixed c.mark p i f true _ cv }
        two false hs bs cv = record { holds = hs; bytes = bs; covered = cv }
    go (Some b) e v t calm = two t calm
      where
        bs : Bytes p (settled_at (Some b)) (cleared_all (covers i f) w)
        bs = bytes-hit p (settled_at (Some b)) (covers i f) w (covers-reach i f p ∙ ap is_some e)

        two : (t : Bool) → (t ≡ false → Calm w) → Stands p (settled_at (Some b)) n (appended t i f (cleared_all (covers i f) w))
        two true calm = record { holds = v; bytes = (rw e (inl refl), bs); covered = inl (refl, e) }
        two false calm = record { holds = v; bytes = bs; covered = calm-safe p b (covers i f) w (calm refl) }
