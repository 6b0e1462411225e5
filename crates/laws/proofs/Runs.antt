-- The runs of a failing write: each is a SYNC write of the store, and together they leave the bytes of the selection.
use Rattle.std.proofs.Common.{◌≡◌, ℕ, suc, ◌+◌, ◌≤◌, Bool, true, false, cond, eqb, ◌⊎◌, List, [], ◌∷◌, length, Some, None, Ok, Err, Option, sym, refl, ap, ◌∙◌, inl, inr, add-suc, arith, map}
use Rattle.std.proofs.lemmas.Bool.Decides.{nat_tests}
use Rattle.std.specs.Option.{option_map, option_or}
use Rattle.std.specs.List.{AllByRecursion}
use Rattle.std.proofs.ByRecursion.{All-weaker}
use Rattle.std.proofs.lemmas.Bool.{eqb-true, le-leb, le-ltb}
use Rattle.fault.specs.declared.Fault.TheVariants.{BlobMissing}
use Rattle.content.specs.Bytes.{limit, written}
use Rattle.content.specs.Patches.{Patch}
use Rattle.std.specs.List.{find}
use Rattle.store.proofs.Keys.{found-amended}
use Rattle.store.proofs.Finds.{amended-none}
use Rattle.store.specs.declared.file.File.{File}
use Rattle.store.specs.declared.handle.Handle.{Handle}
use Rattle.store.specs.Meaning.{Volume, Disk, Done, with_durable, with_live, with_volume}
use Rattle.store.specs.Live.{numbered, handle_at, write_fault, write_limit}
use Rattle.store.specs.Durable.{generated, file_of, keep_answer, durable_written}
use Rattle.store.specs.Whole.{write_answer, wrote, written_live}
use Rattle.steps.specs.Log.{idle}
use Rattle.steps.specs.State.{Size}
use Rattle.steps.specs.Faulty.{join_run, runs, Ran, ran_on, ran, grown}
use Rattle.reached.specs.Sound.{Sound}
use Rattle.reached.proofs.Steps.{write-sound}
use Rattle.laws.specs.Pages.{held, reach}
use Rattle.laws.proofs.Places.{Over, over-over, written_over, reach-before}
use Rattle.laws.proofs.Files.{changed-same, changed-other}

-- A SYNC write through a held handle.
module _ (m : Disk) (n o : ℕ) (bs : List ℕ) (x : Handle) (e : handle_at m.handles n ≡ Some x) (f : write_fault m.handles n o (length bs) ≡ None) where
  pub sync-answer : write_answer m n o bs true ≡ keep_answer m.volume x.generation
  sync-answer = rw (f, e)

  pub sync-wrote : wrote m n o bs true ≡ with_volume (written_live m n o bs) (durable_written m.volume x.generation (x.header + o) bs)
  sync-wrote = rw (f, e)

  pub plain-wrote : wrote m n o bs false ≡ written_live m n o bs
  plain-wrote = rw f

  pub handle-wrote : handle_at (written_live m n o bs).handles n ≡ Some (with_live x (written x.live (x.header + o) bs))
  handle-wrote =
      found-amended (numbered n) (λ h. with_live h (written h.live (h.header + o) bs)) (λ h. refl) m.handles
      ∙ ap (option_map (λ (h : Handle). with_live h (written h.live (h.header + o) bs))) e

-- a run that a handle with a header of d bytes can take
abbrev pub Fits : ℕ → ℕ × List ℕ → Type 0
Fits d r = (length r.1 ≤ write_limit) × (r.0 + length r.1 + d ≤ limit)

pub no-fault : (hs : List Handle) (n o len : ℕ) (x : Handle) → handle_at hs n ≡ Some x → len ≤ write_limit → o + len + x.header ≤ limit → write_fault hs n o len ≡ None
no-fault hs n o len x e short fits = rw (e, le-ltb write_limit len short, le-leb (o + len + x.header) limit fits)

-- what the runs have for a place, the later over the earlier
abbrev pub reach_all : ℕ → List (ℕ × List ℕ) → ℕ → Option ℕ
reach_all d [] p = None
reach_all d (r ∷ rs) p = option_or (reach_all d rs p) (reach (d + r.0) (map Some r.1) p)

-- What the runs come to, where the file stands.
pub record Landed (d : ℕ) (rs : List (ℕ × List ℕ)) (g : ℕ) (f : File) (v : Volume) (end : Ran) : Type 0 where
  pub whole : end.fault ≡ None
  pub bytes : List ℕ
  pub here : file_of end.store.volume g ≡ Some (with_durable f bytes)
  pub over : (p : ℕ) → Over (reach_all d rs p) (held f.durable p) (held bytes p)
  pub others : (k : ℕ) → (g ≡ k → ⊥) → file_of end.store.volume k ≡ file_of v k

landed : (rs : List (ℕ × List ℕ)) (n : ℕ) (m : Disk) (ss : List Size) (x : Handle) (f : File) → handle_at m.handles n ≡ Some x → file_of m.volume x.generation ≡ Some f
    → AllByRecursion (Fits x.header) rs → Landed x.header rs x.generation f m.volume (ran rs n m ss)
landed [] n m ss x f e q a = record { whole = refl; bytes = f.durable; here = q; over = λ p. inl refl; others = λ k _. refl }
landed (r ∷ rs) n m ss x f e q a =
    let free = no-fault m.handles n r.0 (length r.1) x e a.0.0 a.0.1 in
    let m' = with_volume (written_live m n r.0 r.1) (durable_written m.volume x.generation (x.header + r.0) r.1) in
    let ys = written f.durable (x.header + r.0) r.1 in
    let there : file_of m'.volume x.generation ≡ Some (with_durable f ys) =
    changed-same m.volume x.generation (λ y. written y.durable (x.header + r.0) r.1)
    ∙ ap (option_map (λ (y : File). with_durable y (written y.durable (x.header + r.0) r.1))) q in
    let more = landed rs n m' (grown ss n (r.0 + length r.1)) (with_live x (written x.live (x.header + r.0) r.1)) (with_durable f ys)
    (handle-wrote m n r.0 r.1 x e free) there a.1 in
    let ok : ran (r ∷ rs) n m ss ≡ ran rs n m' (grown ss n (r.0 + length r.1)) =
    rw (sync-answer m n r.0 r.1 x e free, sync-wrote m n r.0 r.1 x e free, q) in
    rw ok (record {
      whole = more.whole;
      bytes = more.bytes;
      here = more.here;
      over = λ p. over-over _ _ _ _ _ (written_over f.durable (x.header + r.0) r.1 p) (more.over p);
      others = λ k n. more.others k n ∙ changed-other m.volume x.generation k _ n;
    })

-- Where the file is missing, the first run meets that, and no file changes.
pub record Lost (v : Volume) (ss : List Size) (rs : List (ℕ × List ℕ)) (end : Ran) : Type 0 where
  pub fault : (end.fault ≡ None) ⊎ (end.fault ≡ Some BlobMissing)
  pub others : (k : ℕ) → file_of end.store.volume k ≡ file_of v k
  pub sizes : end.sizes ≡ ss

lost : (rs : List (ℕ × List ℕ)) (n : ℕ) (m : Disk) (ss : List Size) (x : Handle) → handle_at m.handles n ≡ Some x → file_of m.volume x.generation ≡ None
    → AllByRecursion (Fits x.header) rs → Lost m.volume ss rs (ran rs n m ss)
lost [] n m ss x e q a = record { fault = inl refl; others = λ k. refl; sizes = refl }
lost (r ∷ rs) n m ss x e q a =
    let free = no-fault m.handles n r.0 (length r.1) x e a.0.0 a.0.1 in
    let m' = with_volume (written_live m n r.0 r.1) (durable_written m.volume x.generation (x.header + r.0) r.1) in
    let ok : ran (r ∷ rs) n m ss ≡ record { fault = Some BlobMissing; store = m'; sizes = ss } =
    rw (sync-answer m n r.0 r.1 x e free, sync-wrote m n r.0 r.1 x e free, q) in
    rw ok (record {
      fault = inr refl;
      others = λ k. ap (find (generated k)) (amended-none (generated x.generation) (λ f. with_durable f (written f.durable (x.header + r.0) r.1)) m.volume.files q);
      sizes = refl;
    })

-- The runs of a patch reach what the patch reaches.
or-none : (r : Option ℕ) → option_or r None ≡ r
or-none None = refl
or-none (Some b) = refl

or-past : (t : Bool) (x : ℕ) (a r : Option ℕ) → (t ≡ true → r ≡ None) → option_or a (cond t (Some x) r) ≡ option_or (option_or a r) (cond t (Some x) None)
or-past true x None r h = rw (h refl)
or-past true x (Some b) r h = refl
or-past false x None r h = sym (or-none r)
or-past false x (Some b) r h = refl

module _ (d p : ℕ) where
  -- nothing of what begins behind a place is at that place
  behind : (o : ℕ) (os : Patch) → eqb (d + o) p ≡ true → reach (suc (d + o)) os p ≡ None
  behind o os e = let s : d + o ≡ p = eqb-true (d + o) p e in reach-before (suc (d + o)) os p (omega arith)

  join-reach : (o x : ℕ) (rs : List (ℕ × List ℕ)) → reach_all d (join_run o x rs) p ≡ option_or (reach_all d rs p) (cond (eqb (d + o) p) (Some x) None)
  join-reach o x [] = refl
  join-reach o x (r ∷ rs) =
      let os = map Some r.1 in
      grind (arith, nat_tests, add-suc d o, or-past (eqb (d + o) p) x (reach_all d rs p) (reach (suc (d + o)) os p), behind o os)

  pub runs-reach : (o : ℕ) (os : Patch) → reach_all d (runs o os) p ≡ reach (d + o) os p
  runs-reach o [] = refl
  runs-reach o (None ∷ os) = runs-reach (suc o) os ∙ ap (λ i. reach i os p) (add-suc d o)
  runs-reach o (Some x ∷ os) =
      grind (arith, nat_tests, add-suc d o, join-reach o x (runs (suc o) os), runs-reach (suc o) os, behind o os, or-none (reach (suc (d + o)) os p))

-- Each run lies within the write.
abbrev Inside : ℕ → ℕ → ℕ × List ℕ → Type 0
Inside low high r = (low ≤ r.0) × (r.0 + length r.1 ≤ high)

join-inside : (o x high : ℕ) (rs : List (ℕ × List ℕ)) → suc o ≤ high → AllByRecursion (Inside (suc o) high) rs → AllByRecursion (Inside o high) (join_run o x rs)
join-inside o x high [] l a = ((omega arith, omega arith), tt)
join-inside o x high (r ∷ rs) l a = go (eqb r.0 (suc o)) refl
  where
    more : AllByRecursion (Inside o high) (r ∷ rs)
    more = All-weaker (Inside (suc o) high) (Inside o high) (λ s q. (omega (arith, q.0), q.1)) (r ∷ rs) a

    go : (t : Bool) → eqb r.0 (suc o) ≡ t → AllByRecursion (Inside o high) (cond t ((o, x ∷ r.1) ∷ rs) ((o, x ∷ []) ∷ (r ∷ rs)))
    go true e = let s : r.0 ≡ suc o = eqb-true r.0 (suc o) e in ((omega arith, omega (arith, a.0.1)), more.1)
    go false e = ((omega arith, omega arith), more)

runs-inside : (o high : ℕ) (os : Patch) → o + length os ≤ high → AllByRecursion (Inside o high) (runs o os)
runs-inside o high [] l = tt
runs-inside o high (None ∷ os) l =
    All-weaker (Inside (suc o) high) (Inside o high) (λ s q. (omega (arith, q.0), q.1)) (runs (suc o) os) (runs-inside (suc o) high os (omega arith))
runs-inside o high (Some x ∷ os) l = join-inside o x high (runs (suc o) os) (omega arith) (runs-inside (suc o) high os (omega arith))

runs_fit : (d o : ℕ) (os : Patch) → length os ≤ write_limit → o + length os + d ≤ limit → AllByRecursion (Fits d) (runs o os)
runs_fit d o os short fits =
    All-weaker (Inside o (o + length os)) (Fits d) (λ r q. (omega (arith, q.0, q.1), omega (arith, q.0, q.1))) (runs o os) (runs-inside o (o + length os) os (omega arith))

runs_none : (o : ℕ) (os : Patch) → idle os ≡ true → runs o os ≡ []
runs_none o [] e = refl
runs_none o (None ∷ os) e = runs_none (suc o) os e
runs_none o (Some x ∷ os) e = cc

-- The runs keep a store sound, and issue nothing.
pub ran_on-keeps : (P : Disk → Type 0) (a : Done) (m : Disk) (new old : List Size) (more : Disk → List Size → Ran) → P m → (P m → P (more m new).store) → P (ran_on a m new old more).store
ran_on-keeps P (Ok u) m new old more h k = k h
ran_on-keeps P (Err f) m new old more h k = h

pub ran-sound : (rs : List (ℕ × List ℕ)) (n : ℕ) (m : Disk) (ss : List Size) → Sound m → Sound (ran rs n m ss).store
ran-sound [] n m ss s = s
ran-sound (r ∷ rs) n m ss s =
    ran_on-keeps Sound (write_answer m n r.0 r.1 true) (wrote m n r.0 r.1 true) (grown ss n (r.0 + length r.1)) ss (ran rs n)
    (write-sound m n r.0 r.1 true s) (λ k. ran-sound rs n (wrote m n r.0 r.1 true) (grown ss n (r.0 + length r.1)) k)

pub wrote-generations : (m : Disk) (n o : ℕ) (bs : List ℕ) (sync : Bool) → (wrote m n o bs sync).generations ≡ m.generations
wrote-generations m n o bs sync = grind arith

pub ran-generations : (rs : List (ℕ × List ℕ)) (n : ℕ) (m : Disk) (ss : List Size) → (ran rs n m ss).store.generations ≡ m.generations
ran-generations [] n m ss = refl
ran-generations (r ∷ rs) n m ss =
    ran_on-keeps (λ x. x.generations ≡ m.generations) (write_answer m n r.0 r.1 true) (wrote m n r.0 r.1 true) (grown ss n (r.0 + length r.1)) ss (ran rs n)
    (wrote-generations m n r.0 r.1 true) (λ k. ran-generations rs n (wrote m n r.0 r.1 true) (grown ss n (r.0 + length r.1)) ∙ k)

-- What the runs of a patch come to, that a held handle can take.
module _ (n : ℕ) (m : Disk) (ss : List Size) (x : Handle) (e : handle_at m.handles n ≡ Some x) (o : ℕ) (os : Patch) (short : length os ≤ write_limit)
    (fits : o + length os + x.header ≤ limit) where
  pub runs-landed : (f : File) → file_of m.volume x.generation ≡ Some f → Landed x.header (runs o os) x.generation f m.volume (ran (runs o os) n m ss)
  runs-landed f q = landed (runs o os) n m ss x f e q (runs_fit x.header o os short fits)

  pub runs-lost : file_of m.volume x.generation ≡ None → Lost m.volume ss (runs o os) (ran (runs o os) n m ss)
  runs-lost q = lost (runs o os) n m ss x e q (runs_fit x.header o os short fits)

  pub runs-idle : idle os ≡ true → ran (runs o os) n m ss ≡ record { fault = None; store = m; sizes = ss }
  runs-idle i = rw (runs_none o os i)
