-- All files: each change of the bench keeps what holds between pages, durable bytes and log, at every place of every file.
use Rattle.std.proofs.Common.{◌≡◌, ℕ, ◌+◌, ◌<◌, ◌≤◌, Bool, true, false, cond, eqb, leb, ◌⊎◌, List, [], ◌∷◌, length, Some, None, Option, sym, refl, ◌∙◌, inl, inr, arith}
use Rattle.std.specs.List.{AllByRecursion, fold}
use Rattle.std.proofs.lemmas.Bool.{ne_eqb, eq-eqb, cond-true}
use Rattle.draw.specs.Words.{Words}
use Rattle.draw.specs.declared.select.PartialWriteMode.{PartialWriteMode}
use Rattle.content.specs.Bytes.{limit}
use Rattle.content.specs.Patches.{Patch}
use Rattle.store.specs.declared.file.File.{File}
use Rattle.store.specs.Meaning.{Volume, with_durable}
use Rattle.store.specs.Durable.{file_of}
use Rattle.steps.specs.Log.{Entry, Wrote, Resized, recorded, idle, resizes, fixed, replayed, dropped}
use Rattle.laws.specs.Pages.{held, reach, Page, fix_whole, fix_range, put_range, mark_all, Allowed}
use Rattle.laws.specs.Ledger.{turned, content_of}
use Rattle.laws.proofs.Places.{Over, idle-reach}
use Rattle.laws.proofs.Stands.{Cut, Stands, Bytes, keeps, whole-stands, bare-stands, put-stands, mark-stands, mark-bytes, fix-stands}
use Rattle.laws.proofs.Since.{since, split, since-recorded, since-recorded-other, since-dropped-all, since-dropped-none, since-fixed, since-fixed-other, calm-since}
use Rattle.laws.proofs.Replay.{crash-seen}

abbrev pub At : ℕ → ℕ → Page → List Entry → Option File → Type 0
At p g page es None = Unit {0}
At p g page es (Some f) = Stands p (page p) (held f.durable p) (since g f.header es)

-- every place of every file stands, and a generation that is not issued has nothing to replay
pub record Kept (v : Volume) (gens : ℕ) (es : List Entry) (pages : ℕ → Page) : Type 0 where
  pub stands : (g p : ℕ) → At p g (pages g) es (file_of v g)
  pub unissued : (g d : ℕ) → gens ≤ g → since g d es ≡ []

at_same : (p g : ℕ) (page : Page) (es fs : List Entry) (o : Option File) → ((d : ℕ) → since g d fs ≡ since g d es) → At p g page es o → At p g page fs o
at_same p g page es fs None e h = tt
at_same p g page es fs (Some f) e h = rw (e f.header) h

-- nothing that counts changes
pub kept_same : {v v' : Volume} {gens : ℕ} {es es' : List Entry} {pages : ℕ → Page}
    → ((h : ℕ) → file_of v' h ≡ file_of v h) → ((h d : ℕ) → since h d es' ≡ since h d es) → Kept v gens es pages → Kept v' gens es' pages
kept_same {v} {v'} {gens} {es} {es'} {pages} files logs k = record {
  stands = λ h p. rw (files h) (at_same p h (pages h) es es' (file_of v h) (logs h) (k.stands h p));
  unissued = λ h d le. logs h d ∙ k.unissued h d le;
}

-- one generation's page, file and entries change
pub kept-turned : {v v' : Volume} {gens : ℕ} {es es' : List Entry} {pages : ℕ → Page} (g : ℕ) (change : Page → Page) → g < gens
    → ((h : ℕ) → (g ≡ h → ⊥) → file_of v' h ≡ file_of v h) → ((h d : ℕ) → (g ≡ h → ⊥) → since h d es' ≡ since h d es)
    → ((p : ℕ) → At p g (change (pages g)) es' (file_of v' g)) → Kept v gens es pages → Kept v' gens es' (turned g change pages)
kept-turned {v} {v'} {gens} {es} {es'} {pages} g change lt files logs here k = record {
  stands = λ h p. split g h (λ x. At p x (turned g change pages x) es' (file_of v' x))
      (rw (eq-eqb g g refl) (here p))
      (λ n. let m : g ≡ h → ⊥ = λ e. n (sym e) in
      rw (ne_eqb h g n, files h m) (at_same p h (pages h) es es' (file_of v h) (λ d. logs h d m) (k.stands h p)));
  unissued = λ h d le. logs h d (omega arith) ∙ k.unissued h d le;
}

-- What is done to one file, of a generation g, a header of d bytes and content xs.
module _ {v : Volume} {gens : ℕ} {es : List Entry} {pages : ℕ → Page} (g d : ℕ) (lt : g < gens) (k : Kept v gens es pages)
    (same : (f : File) → file_of v g ≡ Some f → f.header ≡ d) where
  -- what holds at a place once the file's header is known
  standing : (p : ℕ) (f : File) → file_of v g ≡ Some f → Stands p (pages g p) (held f.durable p) (since g d es)
  standing p f e =
      let s : At p g (pages g) es (Some f) = rw e at (k.stands g p) in
      rw (same f e) at s

  -- a write is recorded
  pub kept_put : (o : ℕ) (os : Patch) (m : PartialWriteMode) (r : ℕ) → leb (d + o + length os) limit ≡ true
      → Kept v gens (recorded es (Wrote g o os m r)) (turned g (put_range (d + o) os) pages)
  kept_put o os m r fits =
      kept-turned g (put_range (d + o) os) lt (λ h n. refl) (λ h e n. since-recorded-other h e es (Wrote g o os m r) n) (λ p. go p (file_of v g) refl) k
    where
      go : (p : ℕ) (x : Option File) → file_of v g ≡ x → At p g (put_range (d + o) os (pages g)) (recorded es (Wrote g o os m r)) x
      go p None e = tt
      go p (Some f) e =
          rw (same f e, since-recorded g d es (Wrote g o os m r), eq-eqb g g refl, fits)
          (put-stands p (pages g p) (held f.durable p) (since g d es) (d + o) os (eqb r 65536) (standing p f e))

  -- a resize is recorded
  pub kept-mark : (len : ℕ) → Kept v gens (recorded es (Resized g len)) (turned g mark_all pages)
  kept-mark len =
      kept-turned g mark_all lt (λ h n. refl) (λ h e n. since-recorded-other h e es (Resized g len) n) (λ p. go p (file_of v g) refl) k
    where
      bytes : (p : ℕ) (t : Bool) → Bytes p (pages g p) (since g d es) → Bytes p (mark_all (pages g) p) (cond t (Cut (d + len) ∷ since g d es) (since g d es))
      bytes p true b = mark-bytes p (pages g p) (since g d es) b
      bytes p false b = mark-bytes p (pages g p) (since g d es) b

      go : (p : ℕ) (x : Option File) → file_of v g ≡ x → At p g (mark_all (pages g)) (recorded es (Resized g len)) x
      go p None e = tt
      go p (Some f) e =
          rw (same f e, since-recorded g d es (Resized g len), eq-eqb g g refl)
          (mark-stands p (pages g p) (held f.durable p) (since g d es) _ (bytes p (leb (d + len) limit) (standing p f e).bytes) (standing p f e))

  -- a range is fixed: the durable bytes take it
  pub kept-fix : (v' : Volume) (o : ℕ) (os : Patch) → leb (d + o + length os) limit ≡ true
      → ((h : ℕ) → (g ≡ h → ⊥) → file_of v' h ≡ file_of v h)
      → ((f : File) → file_of v g ≡ Some f → (ys : List ℕ) × (file_of v' g ≡ Some (with_durable f ys)) × ((p : ℕ) → Over (reach (d + o) os p) (held f.durable p) (held ys p)))
      → (file_of v g ≡ None → file_of v' g ≡ None) → (idle os ≡ true → (h : ℕ) → file_of v' h ≡ file_of v h)
      → Kept v' gens (fixed es g o os) (turned g (fix_range (d + o) os) pages)
  kept-fix v' o os fits others here gone still = go (idle os) refl
    where
      taken : idle os ≡ false → (p : ℕ) (f : File) → file_of v g ≡ Some f → (ys : List ℕ) → file_of v' g ≡ Some (with_durable f ys) → Over (reach (d + o) os p) (held f.durable p) (held ys p)
          → At p g (fix_range (d + o) os (pages g)) (fixed es g o os) (file_of v' g)
      taken b p f e ys q over =
          rw (q, same f e, since-fixed g d es o os b fits)
          (fix-stands p (pages g p) (held f.durable p) (held ys p) (since g d es) (d + o) os (resizes g es) (λ q. calm-since g d [] es q tt) over (standing p f e))

      busy-at : idle os ≡ false → (p : ℕ) (x : Option File) → file_of v g ≡ x → At p g (fix_range (d + o) os (pages g)) (fixed es g o os) (file_of v' g)
      busy-at b p None e = rw (gone e) tt
      busy-at b p (Some f) e = let c = here f e in taken b p f e c.0 c.1 (c.2 p)

      idle-at : idle os ≡ true → (p : ℕ) (x : Option File) → file_of v g ≡ x → At p g (fix_range (d + o) os (pages g)) es x
      idle-at i p None e = tt
      idle-at i p (Some f) e = rw (idle-reach (d + o) os p i, same f e) (standing p f e)

      go : (t : Bool) → idle os ≡ t → Kept v' gens (fixed es g o os) (turned g (fix_range (d + o) os) pages)
      go false b =
          kept-turned g (fix_range (d + o) os) lt others (λ h e n. since-fixed-other h e g n es o os) (λ p. busy-at b p (file_of v g) refl) k
      go true i =
          rw (cond-true (idle os) es _ i)
          (kept-turned g (fix_range (d + o) os) lt others (λ h e n. refl) (λ p. rw (still i g) (idle-at i p (file_of v g) refl)) k)

  -- the whole content is fixed, and nothing of it is left to replay
  pub kept_whole : (v' : Volume) (es' : List Entry) (live : List ℕ) → ((h : ℕ) → (g ≡ h → ⊥) → file_of v' h ≡ file_of v h)
      → ((h e : ℕ) → (g ≡ h → ⊥) → since h e es' ≡ since h e es) → since g d es' ≡ []
      → ((f : File) → file_of v g ≡ Some f → file_of v' g ≡ Some (with_durable f live)) → (file_of v g ≡ None → file_of v' g ≡ None)
      → Kept v' gens es' (turned g (λ _. fix_whole live) pages)
  kept_whole v' es' live others logs none here gone = kept-turned g (λ _. fix_whole live) lt others logs (λ p. go p (file_of v g) refl) k
    where
      go : (p : ℕ) (x : Option File) → file_of v g ≡ x → At p g (fix_whole live) es' (file_of v' g)
      go p None e = rw (gone e) tt
      go p (Some f) e = rw (here f e, same f e, none) (whole-stands p (held live p))

-- a file is made
pub kept-made : {v v' : Volume} {gens : ℕ} {es : List Entry} {pages : ℕ → Page} (f : File) → file_of v' gens ≡ Some f → ((h : ℕ) → (gens ≡ h → ⊥) → file_of v' h ≡ file_of v h)
    → Kept v gens es pages → Kept v' (gens + 1) es (turned gens (λ _. fix_whole f.durable) pages)
kept-made {v} {v'} {gens} {es} {pages} f here others k = record {
  stands = λ h p. split gens h (λ x. At p x (turned gens (λ _. fix_whole f.durable) pages x) es (file_of v' x))
      (rw (eq-eqb gens gens refl, here, k.unissued gens f.header (omega arith)) (whole-stands p (held f.durable p)))
      (λ n. let m : gens ≡ h → ⊥ = λ e. n (sym e) in rw (ne_eqb h gens n, others h m) (k.stands h p));
  unissued = λ h d le. k.unissued h d (omega arith);
}

-- files are removed, with the entries of their generations
pub kept-removed : {v v' : Volume} {gens : ℕ} {es : List Entry} {pages : ℕ → Page} (gs : List ℕ)
    → ((h : ℕ) → (file_of v' h ≡ None) ⊎ ((file_of v' h ≡ file_of v h) × AllByRecursion (λ x. x ≡ h → ⊥) gs)) → Kept v gens es pages → Kept v' gens (fold dropped es gs) pages
kept-removed {v} {v'} {gens} {es} {pages} gs ways k = record {
  stands = λ h p. go h p (ways h);
  unissued = λ h d le. since-dropped-none h d es gs (k.unissued h d le);
}
  where
    go : (h p : ℕ) → (file_of v' h ≡ None) ⊎ ((file_of v' h ≡ file_of v h) × AllByRecursion (λ x. x ≡ h → ⊥) gs) → At p h (pages h) (fold dropped es gs) (file_of v' h)
    go h p (inl e) = rw e tt
    go h p (inr e) = rw e.0 (at_same p h (pages h) es (fold dropped es gs) (file_of v h) (λ d. since-dropped-all h d es gs e.1) (k.stands h p))

-- the log is emptied, with or without a crash
pub kept-crash : {gens : ℕ} (v' : Volume) → Kept v' gens [] (λ g. fix_whole (content_of (file_of v' g)))
kept-crash {gens} v' = record { stands = λ g p. go g p (file_of v' g); unissued = λ g d le. refl }
  where
    go : (g p : ℕ) (o : Option File) → At p g (fix_whole (content_of o)) [] o
    go g p None = tt
    go g p (Some f) = whole-stands p (held f.durable p)

pub kept-restart : {v : Volume} {gens : ℕ} {es : List Entry} {pages : ℕ → Page} → Kept v gens es pages → Kept v gens [] pages
kept-restart {v} {gens} {es} {pages} k = record { stands = λ g p. go g p (file_of v g) (k.stands g p); unissued = λ g d le. refl }
  where
    go : (g p : ℕ) (o : Option File) → At p g (pages g) es o → At p g (pages g) [] o
    go g p None s = tt
    go g p (Some f) s = bare-stands p (pages g p) (held f.durable p) (since g f.header es) s

-- what a crash leaves where all this holds
pub kept-promise : {v : Volume} {gens : ℕ} {es : List Entry} {pages : ℕ → Page} → Kept v gens es pages → (w : Words) (g : ℕ) (f : File) → file_of v g ≡ Some f
    → (ys : List ℕ) × (file_of (replayed es v w).0 g ≡ Some (with_durable f ys)) × ((p : ℕ) → Allowed (pages g p) (held ys p))
kept-promise {v} {gens} {es} {pages} k w g f e =
    let s = crash-seen g f es v w e in
    (s.0, s.1, λ p. (let st : At p g (pages g) es (Some f) = rw e at (k.stands g p) in keeps p (pages g p) f.durable s.0 (since g f.header es) s.2 st))
