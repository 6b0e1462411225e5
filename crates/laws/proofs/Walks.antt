-- What holds of store and sizes after a call, from what holds after the store's own calls.
use Rattle.std.proofs.Common.{ℕ, ◌+◌, ◌-◌, min, max, Bool, true, false, ◌&&◌, ltb, List, [], length, Some, None, Ok, Err, Option, Result, map}
use Rattle.std.proofs.lemmas.Bool.{cond_both}
use Rattle.fault.specs.declared.Op.{Op as Operation}
use Rattle.fault.specs.declared.Op.TheVariants as Op
use Rattle.fault.specs.declared.Fault.{Fault}
use Rattle.fault.specs.declared.Fault.TheVariants.{Injected}
use Rattle.draw.specs.Words.{after, rolled, roll_taken, picked, pick_taken}
use Rattle.store.specs.Meaning.{Disk, when_some, when_ok, refused}
use Rattle.store.specs.Live.{held_fault, resize_fault}
use Rattle.store.specs.Whole.{write_answer, wrote, resize_answer, resized, synced}
use Rattle.steps.specs.Log.{fixed}
use Rattle.steps.specs.State.{Faulty, Outcome, Size, WriteRates, ResizeRates, rate_of, write_failure, retention, least}
use Rattle.steps.specs.Faulty.{turned, struck, rolling, done, size_in, grown, sized_to, is_empty, write_refusal, log_for, ran, failing_write, recording, writing, good_write, write_step, resizing, failing_resize, resize_step, full_fault, sync_step, ticketed, tickets_fault, start_sync_step}
use Rattle.laws.proofs.Resizes.{going}

-- a refusal or an outcome, a roll that strikes or not: of a fact about store and sizes
module _ (R : Disk → List Size → Type 0) where
  pub after-turned : {A : Type 0} (f : Option Fault) (b : Faulty) (area : List ℕ) (o : Outcome Faulty (Result A Fault)) → R b.store b.sizes → R o.next.store o.next.sizes
      → (let n = (turned f b area o).next in R n.store n.sizes)
  after-turned None b area o i k = k
  after-turned (Some g) b area o i k = i

  pub after-rolling : {A : Type 0} (rate : ℕ) (op : Operation) (b : Faulty) (area : List ℕ) (o : Outcome Faulty (Result A Fault)) → R b.store b.sizes → R o.next.store o.next.sizes
      → (let n = (rolling rate op b area o).next in R n.store n.sizes)
  after-rolling rate op b area o i k = cond_both (rolled rate b.words) (struck op b area (roll_taken rate)) o (λ x. R x.next.store x.next.sizes) (λ _. i) (λ _. k)

module _ (R : Disk → List Size → Type 0) (b : Faulty) (i : R b.store b.sizes) where
  abbrev After : {A : Type 0} → Outcome Faulty A → Type 0
  After o = R o.next.store o.next.sizes

  pub write-walk : ((n o : ℕ) (bs : List ℕ) (sync : Bool) → R (wrote b.store n o bs sync) (when_ok (write_answer b.store n o bs sync) (grown b.sizes n (o + length bs)) b.sizes))
      → ((rs : List (ℕ × List ℕ)) (n : ℕ) → R (ran rs n b.store b.sizes).store (ran rs n b.store b.sizes).sizes)
      → (h offset : ℕ) (bs : List ℕ) (sync : Bool) → After (write_step b h offset bs sync)
  write-walk writes runs h offset bs sync =
      cond_both (sync && is_empty bs) (done (refused (held_fault b.store.handles h) (Ok tt)) [] 0 b) _ After (λ _. i)
      (λ _. after-turned R (write_refusal b h offset bs) b [] _ i
      (cond_both (rolled rate b.words) (when_some (retention b.rates) (λ w. failing_write b w h offset bs (roll_taken rate)) (struck Op.Write b [] (roll_taken rate))) (good_write b h offset bs sync (roll_taken rate))
      After (λ _. fails (retention b.rates)) (λ _. goes sync)))
    where
      rate : ℕ
      rate = write_failure b.rates

      fails : (o : Option WriteRates) → After (when_some o (λ w. failing_write b w h offset bs (roll_taken rate)) (struck Op.Write b [] (roll_taken rate)))
      fails None = i
      fails (Some w) = runs _ h

      goes : (y : Bool) → After (good_write b h offset bs y (roll_taken rate))
      goes false = writes h offset bs false
      goes true =
          cond_both (rolled (rate_of b.rates.syncs) (after (roll_taken rate) b.words)) (writing b h offset bs false (recording b h offset bs) (Err (Injected Op.Sync)) (roll_taken rate + roll_taken (rate_of b.rates.syncs)))
          (writing b h offset bs true (log_for b h (λ g. fixed b.log g offset (map Some bs))) (Ok tt) (roll_taken rate + roll_taken (rate_of b.rates.syncs))) After
          (λ _. writes h offset bs false) (λ _. writes h offset bs true)

  pub resize-walk : ((n len : ℕ) → R (resized b.store n len) (when_ok (resize_answer b.store n len) (sized_to b.sizes n len) b.sizes)) → (h len : ℕ) → After (resize_step b h len)
  resize-walk resizes h len = after-turned R (least (resize_fault b.store.handles h len) (full_fault b.log true)) b [] _ i (go b.rates.resizes)
    where
      part : (r : ResizeRates) → After (failing_resize b r h len (roll_taken r.failure))
      part r =
          let words = after (roll_taken r.failure) b.words in
          let low = min (size_in b.sizes h) len in
          let high = max (size_in b.sizes h) len in
          let span = high - low - 1 in
          let m = roll_taken r.failure + roll_taken r.partial in
          cond_both (rolled r.partial words && ltb 1 (high - low))
          (resizing b h (low + 1 + picked span (after (roll_taken r.partial) words)) true (Err (Injected Op.Resize)) (m + pick_taken span)) (struck Op.Resize b [] m) After
          (λ _. resizes h (low + 1 + picked span (after (roll_taken r.partial) words))) (λ _. i)

      go : (o : Option ResizeRates) → After (going b h len o)
      go None = resizes h len
      go (Some r) =
          cond_both (rolled r.failure b.words) (failing_resize b r h len (roll_taken r.failure))
          (resizing b h len (rolled r.failure (after (roll_taken r.failure) b.words)) (Ok tt) (roll_taken r.failure + roll_taken r.failure)) After
          (λ _. part r) (λ _. resizes h len)

  pub sync-walk : ((n : ℕ) → R (synced b.store n) b.sizes) → (h : ℕ) → After (sync_step b h)
  sync-walk syncs h = after-turned R (held_fault b.store.handles h) b [] _ i (after-rolling R (rate_of b.rates.syncs) Op.Sync b [] _ i (syncs h))

  pub start-walk : ((n : ℕ) → R (synced b.store n) b.sizes) → (h : ℕ) → After (start_sync_step b h)
  start-walk syncs h =
      after-turned R (least (held_fault b.store.handles h) (least (tickets_fault b) (full_fault b.log true))) b [] _ i
      (cond_both (rolled (rate_of b.rates.syncs) b.words) (ticketed b (Err (Injected Op.Sync)) b.store b.log (roll_taken (rate_of b.rates.syncs))) _ After (λ _. i) (λ _. syncs h))
