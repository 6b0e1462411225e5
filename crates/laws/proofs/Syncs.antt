-- Close, sync and start_sync keep bench and ledger together.
use Rattle.std.proofs.Common.{◌≡◌, ℕ, true, false, cond, List, [], Some, None, Ok, Err, Option, Result, sym, refl, ap, ◌∙◌, arith}
use Rattle.std.specs.Result.{is_ok}
use Rattle.std.specs.Option.{option_map}
use Rattle.std.proofs.lemmas.Bool.{cond_both, eq-eqb}
use Rattle.fault.specs.declared.Op.TheVariants as Op
use Rattle.fault.specs.declared.Fault.{Fault}
use Rattle.fault.specs.declared.Fault.TheVariants.{NoHandle, BlobMissing, TicketsFull, LogFull, Injected}
use Rattle.draw.specs.Words.{after, rolled, roll_taken}
use Rattle.draw.specs.Sources.{tape_words}
use Rattle.std.specs.List.{find}
use Rattle.store.specs.Tables.{without}
use Rattle.store.proofs.Finds.{amended-none}
use Rattle.store.specs.declared.file.File.{File}
use Rattle.store.specs.declared.handle.Handle.{Handle}
use Rattle.store.specs.Meaning.{Done, with_durable, with_volume, when_some, when_ok, refused}
use Rattle.store.specs.Live.{handle_at, held_fault}
use Rattle.store.specs.Durable.{generated, file_of, keep_answer, durable_replaced}
use Rattle.store.specs.Whole.{closed_disk, sync_answer, synced}
use Rattle.steps.specs.Log.{Entry, Marked, recorded, dropped}
use Rattle.steps.specs.State.{Faulty, Outcome, rate_of, least, changed}
use Rattle.steps.specs.Faulty.{turned, struck, rolling, done, is_size, close_step, sync_step, tickets_fault, full_fault, ticketed, log_for, start_sync_step}
use Rattle.steps.specs.Calls.{Close, Sync, StartSync, Counted, Told}
use Rattle.reached.specs.Sound.{Sound}
use Rattle.reached.proofs.Steps.{close-sound, sync-sound}
use Rattle.laws.specs.Pages.{Page, fix_whole}
use Rattle.laws.specs.Ledger.{known, turned as turned_page}
use Rattle.laws.specs.Promises.{taken}
use Rattle.laws.proofs.Since.{since, since-dropped, since-dropped-other, since-recorded, since-recorded-other, split}
use Rattle.laws.proofs.Files.{changed-same, changed-other}
use Rattle.laws.proofs.Keeps.{Kept, kept_same, kept_whole}
use Rattle.laws.proofs.Draws.{rolled-upto, tape-upto}
use Rattle.laws.proofs.Good.{note_of, KeptIn, good-as, Goes, goes-as, Early, early-least, early-cond, turned-good, least-none, unchanged, drawn, held-handle}

pub held-early : (hs : List Handle) (h : ℕ) → Early (held_fault hs h)
held-early hs h = grind arith

pub held_of : (hs : List Handle) (h : ℕ) → held_fault hs h ≡ None → (x : Handle) × (handle_at hs h ≡ Some x)
held_of hs h e = go (handle_at hs h) refl e
  where
    go : (o : Option Handle) → handle_at hs h ≡ o → when_some o (λ x. None) (Some NoHandle) ≡ None → (x : Handle) × (handle_at hs h ≡ Some x)
    go None q f = cc
    go (Some x) q f = (x, q)

-- close, by what it tests
abbrev pub closing : Faulty → ℕ → Option Fault → Outcome Faulty Done
closing b h f = turned f b [] (done (refused f (Ok tt)) [] 0 (changed b (closed_disk b.store h) b.log (without (is_size h) b.sizes)))

-- sync through a held handle
abbrev sync_held : Faulty → Handle → Outcome Faulty Done
sync_held b x =
    let a = keep_answer b.store.volume x.generation in
    rolling (rate_of b.rates.syncs) Op.Sync b []
    (done a [] (roll_taken (rate_of b.rates.syncs))
    (changed b (with_volume b.store (durable_replaced b.store.volume x.generation x.live)) (when_ok a (dropped b.log x.generation) b.log) b.sizes))

sync-held : (b : Faulty) (h : ℕ) (x : Handle) → handle_at b.store.handles h ≡ Some x → sync_step b h ≡ sync_held b x
sync-held b h x e = rw e

module _ (b : Faulty) (pages : ℕ → Page) (snd : Sound b.store) (kp : KeptIn b pages) where
  pub close-good : (h : ℕ) → Goes b pages (Close h) Told (close_step b h)
  close-good h = go (held_fault b.store.handles h) refl (held-early b.store.handles h)
    where
      go : (f : Option Fault) → held_fault b.store.handles h ≡ f → Early f → Goes b pages (Close h) Told (closing b h f)
      go (Some g) e a = good-as (unchanged b pages snd kp) (rw a)
      go None e a = good-as (record { agree = refl; sound = close-sound b.store h snd; kept = kept_same (λ k. refl) (λ k d. refl) kp }) (rw e)

  -- the words that a roll took are those that the ledger is fed
  pub fed-roll : (rate : ℕ) → rolled rate (tape_words (taken (roll_taken rate) b.words)) ≡ rolled rate b.words
  fed-roll rate = rolled-upto rate b.words (tape_words (taken (roll_taken rate) b.words)) (tape-upto (roll_taken rate) b.words)

  module _ (h : ℕ) (x : Handle) (e : handle_at b.store.handles h ≡ Some x) where
    synced-sound : Sound (with_volume b.store (durable_replaced b.store.volume x.generation x.live))
    synced-sound =
        let s : synced b.store h ≡ with_volume b.store (durable_replaced b.store.volume x.generation x.live) = rw e in
        rw s at (sync-sound b.store h snd)

    -- the file stands: its live bytes are fixed, and what is left of its entries does not count
    synced-kept : (f : File) → file_of b.store.volume x.generation ≡ Some f → (es : List Entry)
        → ((k d : ℕ) → (x.generation ≡ k → ⊥) → since k d es ≡ since k d b.log) → since x.generation x.header es ≡ []
        → Kept (durable_replaced b.store.volume x.generation x.live) b.store.generations es (turned_page x.generation (λ _. fix_whole x.live) pages)
    synced-kept f q es logs none =
        let held = held-handle b pages snd kp h x e in
        kept_whole x.generation x.header held.issued kp held.header (durable_replaced b.store.volume x.generation x.live) es x.live
        (λ k n. changed-other b.store.volume x.generation k (λ _. x.live) n) logs none
        (λ f q. changed-same b.store.volume x.generation (λ _. x.live) ∙ ap (option_map (λ (y : File). with_durable y x.live)) q)
        (λ q. changed-same b.store.volume x.generation (λ _. x.live) ∙ ap (option_map (λ (y : File). with_durable y x.live)) q)

    -- the file is missing: no file changes
    missing-same : file_of b.store.volume x.generation ≡ None → (k : ℕ) → file_of (durable_replaced b.store.volume x.generation x.live) k ≡ file_of b.store.volume k
    missing-same q k = ap (find (generated k)) (amended-none (generated x.generation) (λ f. with_durable f x.live) b.store.volume.files q)

    sync-good-held : Goes b pages (Sync h) Told (sync_held b x)
    sync-good-held =
        let r = rate_of b.rates.syncs in
        let u = tape_words (taken (roll_taken r) b.words) in
        let same = sync-held (known (note_of b pages) u) h x e in
        cond_both (rolled r b.words) (struck Op.Sync b [] (roll_taken r)) _ (Goes b pages (Sync h) Told)
        (λ hit. good-as (drawn b pages snd kp (after (roll_taken r) b.words)) (let y : rolled r u ≡ true = fed-roll r ∙ hit in rw (same, y)))
        (λ miss. go (let y : rolled r u ≡ false = fed-roll r ∙ miss in y) (file_of b.store.volume x.generation) refl)
      where
        go : rolled (rate_of b.rates.syncs) (tape_words (taken (roll_taken (rate_of b.rates.syncs)) b.words)) ≡ false
            → (o : Option File) → file_of b.store.volume x.generation ≡ o
            → (let a = when_some o (λ _. Ok tt) (Err BlobMissing) in Goes b pages (Sync h) Told (done a [] (roll_taken (rate_of b.rates.syncs))
            (changed b (with_volume b.store (durable_replaced b.store.volume x.generation x.live)) (when_ok a (dropped b.log x.generation) b.log) b.sizes)))
        go miss None q =
            good-as (record { agree = refl; sound = synced-sound; kept = kept_same (missing-same q) (λ k d. refl) kp })
            (rw (sync-held (known (note_of b pages) (tape_words (taken (roll_taken (rate_of b.rates.syncs)) b.words))) h x e, miss))
        go miss (Some f) q =
            good-as (record { agree = refl; sound = synced-sound; kept = synced-kept f q (dropped b.log x.generation) (λ k d n. since-dropped-other k d x.generation n [] b.log) (since-dropped x.generation x.header [] b.log) })
            (rw (sync-held (known (note_of b pages) (tape_words (taken (roll_taken (rate_of b.rates.syncs)) b.words))) h x e, miss, e))

  pub sync-good : (h : ℕ) → Goes b pages (Sync h) Told (sync_step b h)
  sync-good h = go (handle_at b.store.handles h) refl
    where
      go : (o : Option Handle) → handle_at b.store.handles h ≡ o → Goes b pages (Sync h) Told (sync_step b h)
      go None e =
          let s : sync_step b h ≡ record { answer = Err NoHandle; area = []; taken = 0; next = b } = rw e in
          goes-as b pages (Sync h) Told s (unchanged b pages snd kp)
      go (Some x) e = goes-as b pages (Sync h) Told (sync-held b h x e) (sync-good-held h x e)

-- start_sync through a held handle, where neither the tickets nor the log are full
abbrev start_held : Faulty → Handle → Outcome Faulty (Result ℕ Fault)
start_held b x =
    let r = rate_of b.rates.syncs in
    let a = keep_answer b.store.volume x.generation in
    cond (rolled r b.words) (ticketed b (Err (Injected Op.Sync)) b.store b.log (roll_taken r))
    (ticketed b a (with_volume b.store (durable_replaced b.store.volume x.generation x.live)) (recorded b.log (Marked x.generation b.issued (is_ok a))) (roll_taken r))

-- what start_sync does once nothing refuses it
abbrev starting : Faulty → ℕ → Outcome Faulty (Result ℕ Fault)
starting b h =
    let r = rate_of b.rates.syncs in
    let a = sync_answer b.store h in
    cond (rolled r b.words) (ticketed b (Err (Injected Op.Sync)) b.store b.log (roll_taken r))
    (ticketed b a (synced b.store h) (log_for b h (λ g. recorded b.log (Marked g b.issued (is_ok a)))) (roll_taken r))

starting-held : (b : Faulty) (h : ℕ) (x : Handle) → handle_at b.store.handles h ≡ Some x → starting b h ≡ start_held b x
starting-held b h x e = rw e

start-held : (b : Faulty) (h : ℕ) (x : Handle) → handle_at b.store.handles h ≡ Some x → start_sync_step b h ≡ turned (least (tickets_fault b) (full_fault b.log true)) b [] (start_held b x)
start-held b h x e = rw e

start-early : (b : Faulty) → Early (least (tickets_fault b) (full_fault b.log true))
start-early b =
    early-least (tickets_fault b) (full_fault b.log true) (early-cond _ (Some TicketsFull) None refl tt) (early-cond _ (Some LogFull) None refl tt)

module _ (b : Faulty) (pages : ℕ → Page) (snd : Sound b.store) (kp : KeptIn b pages) where
  module _ (h : ℕ) (x : Handle) (e : handle_at b.store.handles h ≡ Some x) where
    start-good-held : Goes b pages (StartSync h) Counted (start_held b x)
    start-good-held =
        let r = rate_of b.rates.syncs in
        let u = tape_words (taken (roll_taken r) b.words) in
        let same = start-held (known (note_of b pages) u) h x e in
        cond_both (rolled r b.words) (ticketed b (Err (Injected Op.Sync)) b.store b.log (roll_taken r)) _ (Goes b pages (StartSync h) Counted)
        (λ hit. good-as (record { agree = refl; sound = snd; kept = kp }) (let y : rolled r u ≡ true = fed-roll b pages snd kp r ∙ hit in rw (same, y)))
        (λ miss. go (fed-roll b pages snd kp r ∙ miss) (file_of b.store.volume x.generation) refl)
      where
        go : rolled (rate_of b.rates.syncs) (tape_words (taken (roll_taken (rate_of b.rates.syncs)) b.words)) ≡ false
            → (o : Option File) → file_of b.store.volume x.generation ≡ o
            → (let a = when_some o (λ _. Ok tt) (Err BlobMissing) in Goes b pages (StartSync h) Counted
            (ticketed b a (with_volume b.store (durable_replaced b.store.volume x.generation x.live)) (recorded b.log (Marked x.generation b.issued (is_ok a))) (roll_taken (rate_of b.rates.syncs))))
        go miss None q =
            good-as (record { agree = refl; sound = synced-sound b pages snd kp h x e; kept = kept_same (missing-same b pages snd kp h x e q) (λ k d. unmarked k d) kp })
            (rw (start-held (known (note_of b pages) (tape_words (taken (roll_taken (rate_of b.rates.syncs)) b.words))) h x e, miss, e, q))
          where
            unmarked : (k d : ℕ) → since k d (recorded b.log (Marked x.generation b.issued false)) ≡ since k d b.log
            unmarked k d =
                split x.generation k (λ y. since y d (recorded b.log (Marked x.generation b.issued false)) ≡ since y d b.log)
                (since-recorded x.generation d b.log (Marked x.generation b.issued false) ∙ rw (eq-eqb x.generation x.generation refl))
                (λ n. since-recorded-other k d b.log (Marked x.generation b.issued false) (λ s. n (sym s)))
        go miss (Some f) q =
            good-as (record {
              agree = refl;
              sound = synced-sound b pages snd kp h x e;
              kept = synced-kept b pages snd kp h x e f q (recorded b.log (Marked x.generation b.issued true))
                  (λ k d n. since-recorded-other k d b.log (Marked x.generation b.issued true) n)
                  (since-recorded x.generation x.header b.log (Marked x.generation b.issued true) ∙ rw (eq-eqb x.generation x.generation refl));
            })
            (rw (start-held (known (note_of b pages) (tape_words (taken (roll_taken (rate_of b.rates.syncs)) b.words))) h x e, miss, e, q))

  pub start-good : (h : ℕ) → Goes b pages (StartSync h) Counted (start_sync_step b h)
  start-good h =
      let rest = least (tickets_fault b) (full_fault b.log true) in
      let f = least (held_fault b.store.handles h) rest in
      turned-good b pages snd kp (StartSync h) Counted (λ g. refl) f (early-least (held_fault b.store.handles h) rest (held-early b.store.handles h) (start-early b)) [] (starting b h)
      (λ none.
      let x = held_of b.store.handles h (least-none (held_fault b.store.handles h) rest none).0 in
      goes-as b pages (StartSync h) Counted (starting-held b h x.0 x.1) (start-good-held h x.0 x.1))
