-- Which files stand and which handles are held after every call.
use Rattle.std.proofs.Common.{◌≡◌, ℕ, ◌+◌, Bool, true, false, cond, List, [], ◌∷◌, length, is_some, Some, None, Ok, Err, Option, refl, ◌∙◌, arith}
use Rattle.std.proofs.lemmas.Bool.{cond_both}
use Rattle.fault.specs.declared.Fault.{Fault}
use Rattle.draw.specs.Words.{Words, after}
use Rattle.draw.specs.Selections.{selected, select_taken}
use Rattle.content.specs.Bytes.{written, cut, within}
use Rattle.content.specs.Patches.{lay}
use Rattle.std.specs.List.{find}
use Rattle.store.specs.Tables.{amended}
use Rattle.store.specs.declared.file.File.{File}
use Rattle.store.specs.declared.handle.Handle.{Handle}
use Rattle.store.specs.Meaning.{Disk, Volume, Done, with_durable, with_live, with_files, with_handles, with_volume, when_some, when_ok}
use Rattle.store.specs.Live.{numbered, handle_at, write_fault}
use Rattle.store.specs.Durable.{named, generated, file_stands, durable_written, durable_replaced, crash_written, crash_resized}
use Rattle.store.specs.Whole.{write_answer, wrote, written_live, written_durable, resize_answer, resized, synced}
use Rattle.steps.specs.Log.{Entry, Wrote, Resized, Marked, marks, kept, replayed}
use Rattle.steps.specs.State.{Faulty, Size}
use Rattle.steps.specs.Faulty.{grown, ran, write_step, resize_step, sync_step, start_sync_step}
use Rattle.laws.proofs.Runs.{ran_on-keeps}
use Rattle.laws.proofs.Walks.{write-walk, resize-walk, sync-walk, start-walk}

-- whether a row is found is the same after a change that the test does not see
some-amended : {A : Type 0} (p q : A → Bool) (f : A → A) → ((x : A) → p (f x) ≡ p x) → (xs : List A) → is_some (find p (amended q f xs)) ≡ is_some (find p xs)
some-amended p q f h [] = refl
some-amended p q f h (x ∷ xs) = grind (arith, h x, some-amended p q f h xs)

-- the same files stand and the same handles are held
pub record Names (m m' : Disk) : Type 0 where
  pub files : (p n : List ℕ) → file_stands m'.volume p n ≡ file_stands m.volume p n
  pub handles : (k : ℕ) → is_some (handle_at m'.handles k) ≡ is_some (handle_at m.handles k)

pub names_same : (m : Disk) → Names m m
names_same m = record { files = λ p n. refl; handles = λ k. refl }

names-then : (a b c : Disk) → Names a b → Names b c → Names a c
names-then a b c x y = record { files = λ p n. y.files p n ∙ x.files p n; handles = λ k. y.handles k ∙ x.handles k }

-- other durable bytes for one file
stands-changed : (v : Volume) (g : ℕ) (a : File → List ℕ) (p n : List ℕ) → file_stands (with_files v (amended (generated g) (λ f. with_durable f (a f)) v.files)) p n ≡ file_stands v p n
stands-changed v g a p n = some-amended (named p n) (generated g) (λ f. with_durable f (a f)) (λ f. refl) v.files

-- other live bytes for one handle
held-changed : (hs : List Handle) (n : ℕ) (a : Handle → List ℕ) (k : ℕ) → is_some (handle_at (amended (numbered n) (λ h. with_live h (a h)) hs) k) ≡ is_some (handle_at hs k)
held-changed hs n a k = some-amended (numbered k) (numbered n) (λ h. with_live h (a h)) (λ h. refl) hs

wrote-names : (m : Disk) (n o : ℕ) (bs : List ℕ) (sync : Bool) → Names m (wrote m n o bs sync)
wrote-names m n o bs sync = go (write_fault m.handles n o (length bs)) sync
  where
    live : (k : ℕ) → is_some (handle_at (written_live m n o bs).handles k) ≡ is_some (handle_at m.handles k)
    live k = held-changed m.handles n (λ h. written h.live (h.header + o) bs) k

    durable : (x : Option Handle) (p q : List ℕ)
        → file_stands (when_some x (λ h. durable_written m.volume h.generation (h.header + o) bs) m.volume) p q ≡ file_stands m.volume p q
    durable None p q = refl
    durable (Some h) p q = stands-changed m.volume h.generation (λ f. written f.durable (h.header + o) bs) p q

    go : (f : Option Fault) (y : Bool) → Names m (when_some f (λ _. m) (cond y (with_volume (written_live m n o bs) (written_durable m n o bs)) (written_live m n o bs)))
    go (Some f) y = names_same m
    go None false = record { files = λ p q. refl; handles = live }
    go None true = record { files = durable (handle_at m.handles n); handles = live }

ran-names : (rs : List (ℕ × List ℕ)) (n : ℕ) (m : Disk) (ss : List Size) → Names m (ran rs n m ss).store
ran-names [] n m ss = names_same m
ran-names (r ∷ rs) n m ss =
    ran_on-keeps (Names m) (write_answer m n r.0 r.1 true) (wrote m n r.0 r.1 true) (grown ss n (r.0 + length r.1)) ss (ran rs n) (wrote-names m n r.0 r.1 true)
    (λ k. names-then m (wrote m n r.0 r.1 true) _ k (ran-names rs n (wrote m n r.0 r.1 true) (grown ss n (r.0 + length r.1))))

resized-names : (m : Disk) (n len : ℕ) → Names m (resized m n len)
resized-names m n len = go (resize_answer m n len)
  where
    go : (a : Done) → Names m (when_ok a (with_handles m (amended (numbered n) (λ h. with_live h (cut (h.header + len) h.live)) m.handles)) m)
    go (Ok u) = record { files = λ p q. refl; handles = λ k. held-changed m.handles n (λ h. cut (h.header + len) h.live) k }
    go (Err f) = names_same m

synced-names : (m : Disk) (n : ℕ) → Names m (synced m n)
synced-names m n = go (handle_at m.handles n)
  where
    go : (x : Option Handle) → Names m (with_volume m (when_some x (λ h. durable_replaced m.volume h.generation h.live) m.volume))
    go None = names_same m
    go (Some h) = record { files = λ p q. stands-changed m.volume h.generation (λ _. h.live) p q; handles = λ k. refl }

pub replayed-names : (es : List Entry) (v : Volume) (w : Words) (p n : List ℕ) → file_stands (replayed es v w).0 p n ≡ file_stands v p n
replayed-names [] v w p n = refl
replayed-names (Wrote g o os m r ∷ es) v w p n =
    let s = kept (selected m r (length os) w) os in
    let v' = crash_written v g o s in
    let t = select_taken m r (length os) w in
    cond_both (marks g es) (replayed es v w) ((replayed es v' (after t w)).0, t + (replayed es v' (after t w)).1) (λ u. file_stands u.0 p n ≡ file_stands v p n)
    (λ _. replayed-names es v w p n)
    (λ _. replayed-names es v' (after t w) p n ∙ stands-changed v g (λ f. within (f.header + o + length s) (lay f.durable (f.header + o) s) f.durable) p n)
replayed-names (Resized g len ∷ es) v w p n =
    cond_both (marks g es) (replayed es v w) (replayed es (crash_resized v g len) w) (λ u. file_stands u.0 p n ≡ file_stands v p n)
    (λ _. replayed-names es v w p n)
    (λ _. replayed-names es (crash_resized v g len) w p n ∙ stands-changed v g (λ f. within (f.header + len) (cut (f.header + len) f.durable) f.durable) p n)
replayed-names (Marked g t s ∷ es) v w p n = replayed-names es v w p n

-- The calls that leave both as they are.
module _ (b : Faulty) where
  abbrev R : Disk → List Size → Type 0
  R m ss = Names b.store m

  pub write-names : (h offset : ℕ) (bs : List ℕ) (sync : Bool) → Names b.store (write_step b h offset bs sync).next.store
  write-names h offset bs sync = write-walk R b (names_same b.store) (λ n o cs y. wrote-names b.store n o cs y) (λ rs n. ran-names rs n b.store b.sizes) h offset bs sync

  pub resize-names : (h len : ℕ) → Names b.store (resize_step b h len).next.store
  resize-names h len = resize-walk R b (names_same b.store) (λ n k. resized-names b.store n k) h len

  pub sync-names : (h : ℕ) → Names b.store (sync_step b h).next.store
  sync-names h = sync-walk R b (names_same b.store) (λ n. synced-names b.store n) h

  pub start-names : (h : ℕ) → Names b.store (start_sync_step b h).next.store
  start-names h = start-walk R b (names_same b.store) (λ n. synced-names b.store n) h
