-- After every list of calls bench and ledger are good together, and so the crash promise holds.
use Rattle.std.proofs.Common.{◌≡◌, ℕ, zero, suc, Bool, true, false, cond, eqb, List, [], ◌∷◌, ◌++◌, map, Some, None, Option, sym, refl, ap, ◌∙◌, subst, arith}
use Rattle.std.specs.List.{ContainsAt, AllByRecursion}
use Rattle.std.proofs.lemmas.Bool.{eq-eqb, ne_eqb, cond-true, cond-false}
use Rattle.draw.specs.Words.{Words}
use Rattle.std.specs.List.{find}
use Rattle.store.specs.declared.file.File.{File}
use Rattle.store.specs.Meaning.{Volume, with_durable}
use Rattle.store.specs.Durable.{generated, file_of}
use Rattle.steps.specs.Log.{replayed}
use Rattle.steps.specs.State.{Faulty, Bench, fresh}
use Rattle.steps.specs.Calls.{Call, Open, Remove, Scan, Read, Write, Resize, Size, Sync, StartSync, Settle, Close, Configure, Look, Crash, Restart, stretch, step, run_from}
use Rattle.reached.specs.Sound.{Sound, Distinct}
use Rattle.reached.proofs.Steps.{empty-sound}
use Rattle.laws.specs.Pages.{Page, held, Allowed}
use Rattle.laws.specs.Ledger.{Ledger, feed}
use Rattle.laws.specs.Promises.{taken, Watched, watch, watched, begun, ledger, left, Same, LedgerKnows, CrashPromise}
use Rattle.laws.proofs.Replay.{crash-none, crash-sound}
use Rattle.laws.proofs.Files.{keyed}
use Rattle.laws.proofs.Keeps.{kept-promise}
use Rattle.laws.proofs.Good.{note_of, KeptIn, Good, scan_good, read-good, size-good, look-good, settle-good, configure-good, restart-good, crash-good}
use Rattle.laws.proofs.Syncs.{close-good, sync-good, start-good}
use Rattle.laws.proofs.Resizes.{resize-good}
use Rattle.laws.proofs.Writes.{write-good}
use Rattle.laws.proofs.Removes.{remove-good, remove-partition-good}
use Rattle.laws.proofs.Opens.{Goes, open-good}

-- Every call.
module _ (b : Bench) (pages : ℕ → Page) (snd : Sound b.under.store) (kp : KeptIn b.under pages) (area : List ℕ) where
  call-good : (c : Call) → Goes b pages c (step b c area)
  call-good (Open p n header) = open-good b pages snd kp p n header
  call-good (Remove p None) = remove-partition-good b.under pages snd kp p
  call-good (Remove p (Some n)) = remove-good b.under pages snd kp p n
  call-good (Scan p start len) = scan_good b.under pages snd kp p start len (stretch area start len)
  call-good (Read h offset start len) = read-good b.under pages snd kp h offset start len (stretch area start len)
  call-good (Write h offset bs sync) = write-good b.under pages snd kp h offset bs sync
  call-good (Resize h len) = resize-good b.under pages snd kp h len
  call-good (Size h) = size-good b.under pages snd kp h
  call-good (Sync h) = sync-good b.under pages snd kp h
  call-good (StartSync h) = start-good b.under pages snd kp h
  call-good (Settle t) = settle-good b.under pages snd kp t
  call-good (Close h) = close-good b.under pages snd kp h
  call-good (Configure r) = configure-good b.under pages snd kp r
  call-good (Look p n start len) = look-good b.under pages snd kp p n start len (stretch area start len)
  call-good Crash = crash-good b.under pages snd kp
  call-good Restart = restart-good b.under pages snd kp

abbrev pub GoodNow : Watched → Type 0
GoodNow s = Good s.bench.under s.ledger

pub watch-good : (s : Watched) (c : Call) → GoodNow s → GoodNow (watch s c)
watch-good s c g = via s.ledger g.agree (call-good s.bench s.ledger.pages g.sound g.kept s.area c)
  where
    via : (l : Ledger) → l ≡ note_of s.bench.under s.ledger.pages → Goes s.bench s.ledger.pages c (step s.bench c s.area)
        → (let o = step s.bench c s.area in Good o.next.under (feed l c o.answer (taken o.taken s.bench.under.words) o.next.under.store.volume.files))
    via l e h = rw e h

watched-good : (cs : List Call) (s : Watched) → GoodNow s → GoodNow (watched s cs)
watched-good [] s g = g
watched-good (c ∷ cs) s g = watched-good cs (watch s c) (watch-good s c g)

pub all-good : (w : Words) (area : List ℕ) (cs : List Call) → GoodNow (watched (begun w area) cs)
all-good w area cs = watched-good cs (begun w area) (record { agree = refl; sound = empty-sound; kept = record { stands = λ g p. tt; unissued = λ g d le. refl } })

-- The runs that a ledger watches are the runs of the bench.
watched-runs : (cs : List Call) (s : Watched)
    → ((watched s cs).bench ≡ (run_from s.bench s.area cs).next) × ((watched s cs).area ≡ (run_from s.bench s.area cs).area)
watched-runs [] s = (refl, refl)
watched-runs (c ∷ cs) s = watched-runs cs (watch s c)

pub watched-bench : (w : Words) (area : List ℕ) (cs : List Call) → (watched (begun w area) cs).bench ≡ left w area cs
watched-bench w area cs = (watched-runs cs (begun w area)).0

run-append : (cs ds : List Call) (b : Bench) (area : List ℕ) → (run_from b area (cs ++ ds)).next ≡ (run_from (run_from b area cs).next (run_from b area cs).area ds).next
run-append [] ds b area = refl
run-append (c ∷ cs) ds b area = run-append cs ds (step b c area).next (step b c area).area

-- the files that a crash leaves
crashed : (w : Words) (area : List ℕ) (cs : List Call)
    → (let b = (left w area cs).under in (left w area (cs ++ (Crash ∷ []))).under.store.volume ≡ (replayed b.log b.store.volume b.words).0)
crashed w area cs = ap (λ (b : Bench). b.under.store.volume) (run-append cs (Crash ∷ []) (fresh w) area)

-- Files by their generations.
module _ {A : Type 0} (key : A → ℕ) where
  apart : (k : ℕ) (xs : List A) (x : A) → AllByRecursion (λ y. k ≡ y → ⊥) (map key xs) → ContainsAt xs x → k ≡ key x → ⊥
  apart k [] x a h e = omega (arith, h.1)
  apart k (y ∷ ys) x a (zero, l, at) e = a.0 (e ∙ sym (ap key (at y)))
  apart k (y ∷ ys) x a (suc i, l, at) e = apart k ys x a.1 (i, omega arith, at) e

  has-found : (xs : List A) (x : A) → Distinct (map key xs) → ContainsAt xs x → find (keyed key (key x)) xs ≡ Some x
  has-found [] x d h = absurd (omega (arith, h.1))
  has-found (y ∷ ys) x d (zero, l, at) = cond-true (eqb (key y) (key x)) (Some y) _ (eq-eqb (key y) (key x) (ap key (at y))) ∙ ap Some (at y)
  has-found (y ∷ ys) x d (suc i, l, at) =
      cond-false (eqb (key y) (key x)) (Some y) _ (ne_eqb (key y) (key x) (apart (key y) ys x d.0 (i, omega arith, at))) ∙ has-found ys x d.1 (i, omega arith, at)

found-has : {A : Type 0} (q : A → Bool) (xs : List A) (x : A) → find q xs ≡ Some x → ContainsAt xs x
found-has q [] x e = cc
found-has q (y ∷ ys) x e = go (q y) e (found-has q ys x)
  where
    go : (t : Bool) → cond t (Some y) (find q ys) ≡ Some x → (find q ys ≡ Some x → ContainsAt ys x) → ContainsAt (y ∷ ys) x
    go true e more = let s : y ≡ x = cc in (0, omega arith, λ d. s)
    go false e more = let h = more e in (suc h.0, omega (arith, h.1), h.2)

module _ (w : Words) (area : List ℕ) (cs : List Call) where
  g : Good (left w area cs).under (ledger w area cs)
  g = subst (λ (b : Bench). Good b.under (ledger w area cs)) (watched-bench w area cs) (all-good w area cs)

  abbrev b : Faulty
  b = (left w area cs).under

  abbrev after : Volume
  after = (replayed b.log b.store.volume b.words).0

  keeps : (f : File) → ContainsAt b.store.volume.files f → (e : File) × ContainsAt after.files e × Same f e
  keeps f h =
      let here = has-found (λ (x : File). x.generation) b.store.volume.files f g.sound.files.generations_distinct h in
      let k = kept-promise g.kept b.words f.generation f here in
      (with_durable f k.0, found-has (generated f.generation) after.files (with_durable f k.0) k.1, record { partition = refl; name = refl; generation = refl; header = refl })

  allowed : (e : File) → ContainsAt after.files e
      → (f : File) × ContainsAt b.store.volume.files f × Same f e × ((p : ℕ) → Allowed ((ledger w area cs).pages e.generation p) (held e.durable p))
  allowed e h = go (file_of b.store.volume e.generation) refl
    where
      here : file_of after e.generation ≡ Some e
      here = has-found (λ (x : File). x.generation) after.files e (crash-sound b.store b.log b.words g.sound).files.generations_distinct h

      go : (o : Option File) → file_of b.store.volume e.generation ≡ o
          → (f : File) × ContainsAt b.store.volume.files f × Same f e × ((p : ℕ) → Allowed ((ledger w area cs).pages e.generation p) (held e.durable p))
      go None q =
          let n = crash-none e.generation b.log b.store.volume b.words q in
          let s : None ≡ Some e = sym n ∙ here in cc
      go (Some f) q =
          let k = kept-promise g.kept b.words e.generation f q in
          let same : with_durable f k.0 ≡ e = let s : Some (with_durable f k.0) ≡ Some e = sym k.1 ∙ here in cc in (
            f,
            found-has (generated e.generation) b.store.volume.files f q,
            subst (Same f) same (record { partition = refl; name = refl; generation = refl; header = refl }),
            λ p. subst (λ (x : File). Allowed ((ledger w area cs).pages e.generation p) (held x.durable p)) same (k.2 p),
          )

pub crash-promise : CrashPromise
crash-promise w area cs = record {
  keeps = λ f h. (let k = keeps w area cs f h in (k.0, subst (λ (v : Volume). ContainsAt v.files k.0) (sym (crashed w area cs)) k.1, k.2));
  allowed = λ e h. allowed w area cs e (subst (λ (v : Volume). ContainsAt v.files e) (crashed w area cs) h);
}

pub ledger-knows : LedgerKnows
ledger-knows w area cs =
    let a = (g w area cs).agree in
    record { rates = ap (λ (l : Ledger). l.rates) a; sizes = ap (λ (l : Ledger). l.sizes) a; store = ap (λ (l : Ledger). l.store) a }
