-- A resize keeps bench and ledger together.
use Rattle.std.proofs.Common.{◌≡◌, ℕ, ◌+◌, ◌-◌, min, max, Bool, true, false, cond, ◌&&◌, ltb, leb, List, [], Some, None, Ok, Err, Option, refl, ap, ◌∙◌, arith}
use Rattle.std.proofs.lemmas.Bool.{cond_both}
use Rattle.fault.specs.declared.Op.TheVariants as Op
use Rattle.fault.specs.declared.Fault.{Fault}
use Rattle.fault.specs.declared.Fault.TheVariants.{NoHandle, NoSpace, LogFull, Injected}
use Rattle.draw.specs.Words.{Words, after, rolled, roll_taken, picked, pick_taken}
use Rattle.draw.specs.Sources.{tape_words}
use Rattle.content.specs.Bytes.{limit}
use Rattle.store.specs.declared.handle.Handle.{Handle}
use Rattle.store.specs.Meaning.{Done, with_handles, when_some}
use Rattle.store.specs.Live.{handle_at, resize_fault, live_resized}
use Rattle.store.specs.Whole.{resized}
use Rattle.steps.specs.Log.{Resized, recorded}
use Rattle.steps.specs.State.{Faulty, Outcome, ResizeRates, least, changed}
use Rattle.steps.specs.Faulty.{struck, done, size_in, sized_to, full_fault, resizing, failing_resize, resize_step}
use Rattle.steps.specs.Calls.{Resize, Told}
use Rattle.reached.specs.Sound.{Sound}
use Rattle.reached.proofs.Steps.{resize-sound}
use Rattle.laws.specs.Pages.{Page, mark_all}
use Rattle.laws.specs.Ledger.{early, known, followed, resize_recorded, is_accepted, of_handle, turned as turned_page}
use Rattle.laws.specs.Promises.{taken}
use Rattle.laws.proofs.Keeps.{Kept, kept-mark}
use Rattle.laws.proofs.Draws.{Upto, upto-first, upto_rest, rolled-upto, picked-upto, tape-upto}
use Rattle.laws.proofs.Good.{note_of, KeptIn, Good, good-as, Goes, goes-as, Early, early-least, early-cond, least-none, turned-good, drawn, held-handle}

resize-early : (hs : List Handle) (h len : ℕ) → Early (resize_fault hs h len)
resize-early hs h len = go (handle_at hs h)
  where
    go : (o : Option Handle) → Early (when_some o (λ x. cond (leb (len + x.header) limit) None (Some NoSpace)) (Some NoHandle))
    go None = refl
    go (Some x) = early-cond (leb (len + x.header) limit) None (Some NoSpace) tt refl

-- a resize that meets no fault has a handle
resize-held : (hs : List Handle) (h len : ℕ) → resize_fault hs h len ≡ None → (x : Handle) × (handle_at hs h ≡ Some x)
resize-held hs h len e = go (handle_at hs h) refl e
  where
    go : (o : Option Handle) → handle_at hs h ≡ o → when_some o (λ x. cond (leb (len + x.header) limit) None (Some NoSpace)) (Some NoHandle) ≡ None → (x : Handle) × (handle_at hs h ≡ Some x)
    go None q f = cc
    go (Some x) q f = (x, q)

-- what a resize does once nothing refuses it
abbrev pub going : Faulty → ℕ → ℕ → Option ResizeRates → Outcome Faulty Done
going b h len o =
    when_some o
    (λ r.
    let n = roll_taken r.failure in
    cond (rolled r.failure b.words) (failing_resize b r h len n)
    (resizing b h len (rolled r.failure (after n b.words)) (Ok tt) (n + n)))
    (resizing b h len false (Ok tt) 0)

going_on : (b : Faulty) (h len : ℕ) (o : Option ResizeRates) → resize_fault b.store.handles h len ≡ None → full_fault b.log true ≡ None → b.rates.resizes ≡ o
    → resize_step b h len ≡ going b h len o
going_on b h len o f g q = rw (f, g, q)

-- a resize of the store that is accepted, and one that is not
abbrev resized_to : Faulty → Handle → ℕ → ℕ → Bool → Done → ℕ → Outcome Faulty Done
resized_to b x h len records ok n =
    done ok [] n
    (changed b (with_handles b.store (live_resized b.store.handles h len)) (cond records (recorded b.log (Resized x.generation len)) b.log) (sized_to b.sizes h len))

resizing-ok : (b : Faulty) (x : Handle) (h len : ℕ) (records : Bool) (ok : Done) (n : ℕ) → handle_at b.store.handles h ≡ Some x → resize_fault b.store.handles h len ≡ None
    → resizing b h len records ok n ≡ resized_to b x h len records ok n
resizing-ok b x h len records ok n e f = rw (f, e)

resizing-refused : (b : Faulty) (g : Fault) (h len : ℕ) (records : Bool) (ok : Done) (n : ℕ) → resize_fault b.store.handles h len ≡ Some g
    → resizing b h len records ok n ≡ done (Err g) [] n b
resizing-refused b g h len records ok n f = rw f

module _ (b : Faulty) (pages : ℕ → Page) (snd : Sound b.store) (kp : KeptIn b pages) (h len : ℕ) (x : Handle) (e : handle_at b.store.handles h ≡ Some x) where
  -- the pages once a resize was recorded, or not
  abbrev marked : Bool → ℕ → Page
  marked records = cond records (turned_page x.generation mark_all pages) pages

  resized-good : (m : ℕ) (records : Bool) (ok : Done) (n : ℕ) → resize_fault b.store.handles h m ≡ None
      → Good (resized_to b x h m records ok n).next (note_of (resized_to b x h m records ok n).next (marked records))
  resized-good m records ok n f =
      record { agree = refl; sound = (let s : resized b.store h m ≡ with_handles b.store (live_resized b.store.handles h m) = rw f in rw s at (resize-sound b.store h m snd)); kept = go records }
    where
      go : (t : Bool) → Kept b.store.volume b.store.generations (cond t (recorded b.log (Resized x.generation m)) b.log) (cond t (turned_page x.generation mark_all pages) pages)
      go true = let held = held-handle b pages snd kp h x e in kept-mark x.generation x.header held.issued kp held.header m
      go false = kp

  -- what the ledger makes of a resize that was accepted below, given the words u that it is fed
  resized-ledger : (u : Words) (a : Done) (m : ℕ) (records : Bool) (n : ℕ) (taped : Bool) (ok : Done) (k : ℕ) → early (Told a) ≡ false
      → resize_step (known (note_of b pages) u) h len ≡ resizing (known (note_of b pages) u) h m taped ok k
      → resize_recorded (note_of b pages) h len (is_accepted (Told a)) u ≡ records → resize_fault b.store.handles h m ≡ None
      → cond (early (Told a)) (note_of b pages) (followed (resize_step (known (note_of b pages) u) h len) (cond (resize_recorded (note_of b pages) h len (is_accepted (Told a)) u) (of_handle (note_of b pages) h (λ _. mark_all)) pages))
      ≡ note_of (resized_to b x h m records a n).next (marked records)
  resized-ledger u a m records n taped ok k late step rec f =
      rw (late, step ∙ resizing-ok (known (note_of b pages) u) x h m taped ok k e f, rec, e)

  -- and of one that altered nothing
  still-ledger : (u : Words) (n : ℕ) → resize_step (known (note_of b pages) u) h len ≡ struck Op.Resize (known (note_of b pages) u) [] n
      → resize_recorded (note_of b pages) h len false u ≡ false
      → followed (resize_step (known (note_of b pages) u) h len) (cond (resize_recorded (note_of b pages) h len false u) (of_handle (note_of b pages) h (λ _. mark_all)) pages) ≡ note_of b pages
  still-ledger u n step rec = rw (step, rec)

  module _ (f : resize_fault b.store.handles h len ≡ None) where
    -- no rates are set
    unset-good : b.rates.resizes ≡ None → Goes b pages (Resize h len) Told (resizing b h len false (Ok tt) 0)
    unset-good q =
        goes-as b pages (Resize h len) Told (resizing-ok b x h len false (Ok tt) 0 e f)
        (good-as (resized-good len false (Ok tt) 0 f)
        (resized-ledger (tape_words []) (Ok tt) len false 0 false (Ok tt) 0 refl (going_on (known (note_of b pages) (tape_words [])) h len None f refl q) (rw q) f))

    module _ (r : ResizeRates) (q : b.rates.resizes ≡ Some r) where
      -- the failure roll said no, and the second one decides about recording
      kept-good : rolled r.failure b.words ≡ false
          → (let n = roll_taken r.failure in Goes b pages (Resize h len) Told (resizing b h len (rolled r.failure (after n b.words)) (Ok tt) (n + n)))
      kept-good miss =
          let n = roll_taken r.failure in
          let w = b.words in
          let u = tape_words (taken (n + n) w) in
          let same = tape-upto (n + n) w in
          let one : rolled r.failure u ≡ false = rolled-upto r.failure w u (upto-first n n w u same) ∙ miss in
          let two : rolled r.failure (after n u) ≡ rolled r.failure (after n w) = rolled-upto r.failure (after n w) (after n u) (upto_rest n n w u same) in
          let records = rolled r.failure (after n w) in
          goes-as b pages (Resize h len) Told (resizing-ok b x h len records (Ok tt) (n + n) e f)
          (good-as (resized-good len records (Ok tt) (n + n) f)
          (resized-ledger u (Ok tt) len records (n + n) (rolled r.failure (after n u)) (Ok tt) (n + n) refl
          (going_on (known (note_of b pages) u) h len (Some r) f refl q ∙ rw one) (rw (q, two)) f))

      -- the failure roll said yes
      module _ (hit : rolled r.failure b.words ≡ true) where
        abbrev low : ℕ
        low = min (size_in b.sizes h) len

        abbrev high : ℕ
        high = max (size_in b.sizes h) len

        abbrev span : ℕ
        span = high - low - 1

        abbrev partly : Words → Bool
        partly w = rolled r.partial (after (roll_taken r.failure) w) && ltb 1 (high - low)

        abbrev between : Words → ℕ
        between w = low + 1 + picked span (after (roll_taken r.partial) (after (roll_taken r.failure) w))

        failing-as : (u : Words) → rolled r.failure u ≡ true
            → resize_step (known (note_of b pages) u) h len
            ≡ cond (partly u) (resizing (known (note_of b pages) u) h (between u) true (Err (Injected Op.Resize)) (roll_taken r.failure + roll_taken r.partial + pick_taken span))
            (struck Op.Resize (known (note_of b pages) u) [] (roll_taken r.failure + roll_taken r.partial))
        failing-as u one = going_on (known (note_of b pages) u) h len (Some r) f refl q ∙ rw one

        -- it went part of the way
        part-good : partly b.words ≡ true
            → Goes b pages (Resize h len) Told (resizing b h (between b.words) true (Err (Injected Op.Resize)) (roll_taken r.failure + roll_taken r.partial + pick_taken span))
        part-good part = go (resize_fault b.store.handles h (between b.words)) refl (resize-early b.store.handles h (between b.words))
          where
            go : (o : Option Fault) → resize_fault b.store.handles h (between b.words) ≡ o → Early o
                → Goes b pages (Resize h len) Told (resizing b h (between b.words) true (Err (Injected Op.Resize)) (roll_taken r.failure + roll_taken r.partial + pick_taken span))
            go (Some g) z a =
                goes-as b pages (Resize h len) Told (resizing-refused b g h (between b.words) true (Err (Injected Op.Resize)) _ z) (good-as (drawn b pages snd kp _) (rw a))
            go None z a =
                let rf = roll_taken r.failure in
                let rp = roll_taken r.partial in
                let ps = pick_taken span in
                let w = b.words in
                let u = tape_words (taken (rf + rp + ps) w) in
                let same : Upto (rf + (rp + ps)) w u = λ k l. tape-upto (rf + rp + ps) w k (omega arith) in
                let one : rolled r.failure u ≡ true = rolled-upto r.failure w u (upto-first rf (rp + ps) w u same) ∙ hit in
                let later = upto_rest rf (rp + ps) w u same in
                let two : rolled r.partial (after rf u) ≡ rolled r.partial (after rf w) = rolled-upto r.partial (after rf w) (after rf u) (upto-first rp ps (after rf w) (after rf u) later) in
                let three : picked span (after rp (after rf u)) ≡ picked span (after rp (after rf w)) =
                picked-upto span (after rp (after rf w)) (after rp (after rf u)) (upto_rest rp ps (after rf w) (after rf u) later) in
                let parted : partly u ≡ true = ap (λ t. t && ltb 1 (high - low)) two ∙ part in
                goes-as b pages (Resize h len) Told (resizing-ok b x h (between w) true (Err (Injected Op.Resize)) (rf + rp + ps) e z)
                (good-as (resized-good (between w) true (Err (Injected Op.Resize)) (rf + rp + ps) z)
                (resized-ledger u (Err (Injected Op.Resize)) (between w) true (rf + rp + ps) true (Err (Injected Op.Resize)) (rf + rp + ps) refl
                (failing-as u one ∙ rw (parted, three)) (rw (q, parted)) z))

        -- it altered nothing
        nothing-good : partly b.words ≡ false → Goes b pages (Resize h len) Told (struck Op.Resize b [] (roll_taken r.failure + roll_taken r.partial))
        nothing-good part =
            let rf = roll_taken r.failure in
            let rp = roll_taken r.partial in
            let w = b.words in
            let u = tape_words (taken (rf + rp) w) in
            let same = tape-upto (rf + rp) w in
            let one : rolled r.failure u ≡ true = rolled-upto r.failure w u (upto-first rf rp w u same) ∙ hit in
            let two : rolled r.partial (after rf u) ≡ rolled r.partial (after rf w) = rolled-upto r.partial (after rf w) (after rf u) (upto_rest rf rp w u same) in
            let parted : partly u ≡ false = ap (λ t. t && ltb 1 (high - low)) two ∙ part in
            good-as (drawn b pages snd kp (after (rf + rp) w)) (still-ledger u (rf + rp) (failing-as u one ∙ rw parted) (rw (q, parted)))

        failing-good : Goes b pages (Resize h len) Told (failing_resize b r h len (roll_taken r.failure))
        failing-good =
            cond_both (partly b.words) (resizing b h (between b.words) true (Err (Injected Op.Resize)) (roll_taken r.failure + roll_taken r.partial + pick_taken span))
            (struck Op.Resize b [] (roll_taken r.failure + roll_taken r.partial)) (Goes b pages (Resize h len) Told) part-good nothing-good

module _ (b : Faulty) (pages : ℕ → Page) (snd : Sound b.store) (kp : KeptIn b pages) where
  pub resize-good : (h len : ℕ) → Goes b pages (Resize h len) Told (resize_step b h len)
  resize-good h len =
      turned-good b pages snd kp (Resize h len) Told (λ g. refl) (least (resize_fault b.store.handles h len) (full_fault b.log true))
      (early-least (resize_fault b.store.handles h len) (full_fault b.log true) (resize-early b.store.handles h len) (early-cond _ (Some LogFull) None refl tt)) []
      (going b h len b.rates.resizes)
      (λ none.
      let f = (least-none (resize_fault b.store.handles h len) (full_fault b.log true) none).0 in
      let x = resize-held b.store.handles h len f in
      go x.0 x.1 f b.rates.resizes refl)
    where
      go : (x : Handle) → handle_at b.store.handles h ≡ Some x → resize_fault b.store.handles h len ≡ None → (o : Option ResizeRates) → b.rates.resizes ≡ o
          → Goes b pages (Resize h len) Told (going b h len o)
      go x e f None q = unset-good b pages snd kp h len x e f q
      go x e f (Some r) q =
          cond_both (rolled r.failure b.words) (failing_resize b r h len (roll_taken r.failure))
          (resizing b h len (rolled r.failure (after (roll_taken r.failure) b.words)) (Ok tt) (roll_taken r.failure + roll_taken r.failure)) (Goes b pages (Resize h len) Told)
          (λ hit. failing-good b pages snd kp h len x e f r q hit) (λ miss. kept-good b pages snd kp h len x e f r q miss)
