-- A call sees only the words that it takes, and leaves the words after them.
use Rattle.std.proofs.Common.{◌≡◌, ℕ, zero, suc, ◌+◌, ◌-◌, ◌≤◌, min, max, Bool, true, false, cond, not, ◌&&◌, eqb, ltb, List, [], ◌∷◌, ◌++◌, length, Some, None, Ok, Err, filter, Option, Result, sym, refl, ap, ◌∙◌, subst, arith, map}
use Rattle.draw.proofs.Counts.{after-after}
use Rattle.std.specs.Result.{is_ok}
use mathlib.Core.Path.{fun_ext}
use Rattle.std.specs.Str.{bytes_eq}
use Rattle.std.proofs.lemmas.Bool.{cond-true, cond-false, cond_both}
use Rattle.fault.specs.declared.Op.{Op as Operation}
use Rattle.fault.specs.declared.Op.TheVariants as Op
use Rattle.fault.specs.declared.Fault.{Fault}
use Rattle.fault.specs.declared.Fault.TheVariants.{BadRate, AlreadyOpen, Injected}
use Rattle.draw.specs.Words.{Words, after, rolled, roll_taken, picked, pick_taken}
use Rattle.draw.specs.Selections.{prefix_taken, selected, select_taken}
use Rattle.draw.specs.declared.select.PartialWriteMode.{PartialWriteMode}
use Rattle.draw.specs.declared.select.PartialWriteMode.TheVariants.{Prefix, Subset}
use Rattle.std.specs.List.{find}
use Rattle.store.specs.Tables.{without}
use Rattle.store.specs.Meaning.{Disk, Volume, Done, when_some, when_ok, refused}
use Rattle.store.specs.Live.{held_fault, resize_fault}
use Rattle.store.specs.Durable.{crash_written, crash_resized, scan_fault, remove_fault, remove_partition_fault}
use Rattle.store.specs.Whole.{open_fault, sync_answer, synced}
use Rattle.steps.specs.Log.{Entry, Wrote, Resized, Marked, marks, kept, fixed, recorded, replayed}
use Rattle.steps.specs.State.{Faulty, Bench, Outcome, Lease, Ticket, Rates, WriteRates, ResizeRates, rate_of, write_failure, retention, least, with_words, changed, fresh, Size}
use Rattle.steps.specs.Faulty.{turned, struck, rolling, done, size_in, is_empty, write_refusal, log_for, failing_write, recording, writing, good_write, write_step, resizing, failing_resize, resize_step, full_fault, open_step, remove_step, remove_partition_step, scan_step, read_step, size_step, look_step, sync_step, ticketed, tickets_fault, start_sync_step, settle_step, close_step, configure_step, bad_rates, crash_step, restart_step}
use Rattle.steps.specs.Register.{lease_of, leased, lifted, registered}
use Rattle.steps.specs.Calls.{Call, Open, Remove, Scan, Read, Write, Resize, Size as AskSize, Sync, StartSync, Settle, Close, Configure, Look, Crash, Restart, Reply, Opened, Counted, Told, Turn, stretch, shown, within, step, run_from}
use Rattle.laws.proofs.Draws.{Upto, upto-first, upto_rest, rolled-upto, picked-upto, selected-upto}
use Rattle.laws.specs.Promises.{on_source, Agreement}
use Rattle.laws.proofs.Good.{settling}
use Rattle.laws.proofs.Syncs.{closing}

-- an outcome with other words left
abbrev on_words : {A : Type 0} → Outcome Faulty A → Words → Outcome Faulty A
on_words o x = record { answer = o.answer; area = o.area; taken = o.taken; next = with_words o.next x }

-- on words that begin with those taken, the outcome is the same but for the words left
abbrev Local : {A : Type 0} → (Words → Outcome Faulty A) → Type 0
Local S = (w u : Words) → Upto (S w).taken w u → S u ≡ on_words (S w) (after (S w).taken u)

pub upto-less : (a n : ℕ) (w u : Words) → a ≤ n → Upto n w u → Upto a w u
upto-less a n w u l h k m = h k (omega arith)

-- a roll after n words
roll-less : (rate n t : ℕ) (w u : Words) → n + roll_taken rate ≤ t → Upto t w u → rolled rate (after n u) ≡ rolled rate (after n w)
roll-less rate n t w u l h = rolled-upto rate (after n w) (after n u) (upto_rest n (roll_taken rate) w u (upto-less (n + roll_taken rate) t w u l h))

module _ {A : Type 0} where
  -- a test that no word decides
  local-test : (t : Bool) (X Y : Words → Outcome Faulty A) → Local X → Local Y → Local (λ w. cond t (X w) (Y w))
  local-test true X Y x y = x
  local-test false X Y x y = y

  -- a roll after n words, on both sides of which at least that many and its own were taken
  local-roll : (rate n : ℕ) (X Y : Words → Outcome Faulty A) → ((w : Words) → n + roll_taken rate ≤ (X w).taken) → ((w : Words) → n + roll_taken rate ≤ (Y w).taken)
      → Local X → Local Y → Local (λ w. cond (rolled rate (after n w)) (X w) (Y w))
  local-roll rate n X Y lx ly x y w u = go (rolled rate (after n w)) refl
    where
      go : (t : Bool) → rolled rate (after n w) ≡ t → Upto (cond t (X w) (Y w)).taken w u
          → cond (rolled rate (after n u)) (X u) (Y u) ≡ on_words (cond t (X w) (Y w)) (after (cond t (X w) (Y w)).taken u)
      go true e h = cond-true (rolled rate (after n u)) (X u) (Y u) (roll-less rate n (X w).taken w u (lx w) h ∙ e) ∙ x w u h
      go false e h = cond-false (rolled rate (after n u)) (X u) (Y u) (roll-less rate n (Y w).taken w u (ly w) h ∙ e) ∙ y w u h

local-turned : {A : Type 0} (f : Option Fault) (b : Faulty) (area : List ℕ) (X : Words → Outcome Faulty (Result A Fault)) → Local X → Local (λ w. turned f (with_words b w) area (X w))
local-turned None b area X x = x
local-turned (Some g) b area X x = λ w u h. refl

-- one roll, and then a store call
local-single : {A : Type 0} (f : Option Fault) (rate : ℕ) (op : Operation) (b : Faulty) (area : List ℕ) (a : Result A Fault) (end : List ℕ) (m : Disk) (es : List Entry) (ss : List Size)
    → Local (λ w. turned f (with_words b w) area (rolling rate op (with_words b w) area (done a end (roll_taken rate) (changed (with_words b w) m es ss))))
local-single f rate op b area a end m es ss =
    local-turned f b area (λ w. rolling rate op (with_words b w) area (done a end (roll_taken rate) (changed (with_words b w) m es ss)))
    (local-roll rate 0 (λ w. struck op (with_words b w) area (roll_taken rate)) (λ w. done a end (roll_taken rate) (changed (with_words b w) m es ss)) (λ w. omega arith) (λ w. omega arith) (λ w u h. refl) (λ w u h. refl))

-- what a selection takes
prefix-taken-upto : (rate n : ℕ) (w u : Words) → Upto (prefix_taken rate n w) w u → prefix_taken rate n u ≡ prefix_taken rate n w
prefix-taken-upto rate zero w u h = refl
prefix-taken-upto rate (suc n) w u h =
    let t = roll_taken rate in
    let m = prefix_taken rate n (after t w) in
    grind (arith, h, rolled-upto rate w u, upto-first t m w u, upto_rest t m w u, prefix-taken-upto rate n (after t w) (after t u))

select-taken-upto : (m : PartialWriteMode) (rate n : ℕ) (w u : Words) → Upto (select_taken m rate n w) w u → select_taken m rate n u ≡ select_taken m rate n w
select-taken-upto Prefix rate n w u h = prefix-taken-upto rate n w u h
select-taken-upto Subset rate n w u h = refl

-- a crash
replayed-upto : (es : List Entry) (v : Volume) (w u : Words) → Upto (replayed es v w).1 w u → replayed es v u ≡ replayed es v w
replayed-upto [] v w u h = refl
replayed-upto (Wrote g o os m r ∷ es) v w u h = go (marks g es) h (replayed-upto es v w u) (λ x k. replayed-upto es x (after n w) (after n u) k)
  where
    n : ℕ
    n = select_taken m r (length os) w

    go : (t : Bool)
        → Upto (cond t (replayed es v w) ((replayed es (crash_written v g o (kept (selected m r (length os) w) os)) (after n w)).0, n + (replayed es (crash_written v g o (kept (selected m r (length os) w) os)) (after n w)).1)).1 w u
        → (Upto (replayed es v w).1 w u → replayed es v u ≡ replayed es v w)
        → ((x : Volume) → Upto (replayed es x (after n w)).1 (after n w) (after n u) → replayed es x (after n u) ≡ replayed es x (after n w))
        → cond t (replayed es v u)
        (let k = select_taken m r (length os) u in let more = replayed es (crash_written v g o (kept (selected m r (length os) u) os)) (after k u) in (more.0, k + more.1))
        ≡ cond t (replayed es v w)
        (let k = select_taken m r (length os) w in let more = replayed es (crash_written v g o (kept (selected m r (length os) w) os)) (after k w) in (more.0, k + more.1))
    go true h same more = same h
    go false h same more =
        let v' = crash_written v g o (kept (selected m r (length os) w) os) in
        let first = upto-first n (replayed es v' (after n w)).1 w u h in
        let rest : replayed es v' (after n u) ≡ replayed es v' (after n w) = more v' (upto_rest n (replayed es v' (after n w)).1 w u h) in
        rw (selected-upto m r (length os) w u first, select-taken-upto m r (length os) w u first) (ap (λ (x : Volume × ℕ). (x.0, n + x.1)) rest)
replayed-upto (Resized g len ∷ es) v w u h = go (marks g es) h (replayed-upto es v w u) (replayed-upto es (crash_resized v g len) w u)
  where
    go : (t : Bool) → Upto (cond t (replayed es v w) (replayed es (crash_resized v g len) w)).1 w u → (Upto (replayed es v w).1 w u → replayed es v u ≡ replayed es v w)
        → (Upto (replayed es (crash_resized v g len) w).1 w u → replayed es (crash_resized v g len) u ≡ replayed es (crash_resized v g len) w)
        → cond t (replayed es v u) (replayed es (crash_resized v g len) u) ≡ cond t (replayed es v w) (replayed es (crash_resized v g len) w)
    go true h a b = a h
    go false h a b = b h
replayed-upto (Marked g t s ∷ es) v w u h = replayed-upto es v w u h

module _ (b : Faulty) where
  local-crash : Local (λ w. crash_step (with_words b w))
  local-crash w u h = rw (replayed-upto b.log b.store.volume w u h)

  local-write : (h offset : ℕ) (bs : List ℕ) (sync : Bool) → Local (λ w. write_step (with_words b w) h offset bs sync)
  local-write h offset bs sync =
      local-test (sync && is_empty bs) (λ w. done (refused (held_fault b.store.handles h) (Ok tt)) [] 0 (with_words b w)) _ (λ w u k. refl)
      (local-turned (write_refusal b h offset bs) b [] _
      (local-roll rate 0 (λ w. when_some (retention b.rates) (λ r. failing_write (with_words b w) r h offset bs (roll_taken rate)) (struck Op.Write (with_words b w) [] (roll_taken rate)))
      (λ w. good_write (with_words b w) h offset bs sync (roll_taken rate)) (λ w. fails-long (retention b.rates) w) (λ w. goes-long sync w) (fails (retention b.rates)) (goes sync)))
    where
      rate : ℕ
      rate = write_failure b.rates

      plain : Words → Outcome Faulty Done
      plain w = writing (with_words b w) h offset bs false (recording (with_words b w) h offset bs) (Err (Injected Op.Sync)) (roll_taken rate + roll_taken (rate_of b.rates.syncs))

      synced-to : Words → Outcome Faulty Done
      synced-to w = writing (with_words b w) h offset bs true (log_for (with_words b w) h (λ g. fixed b.log g offset (map Some bs))) (Ok tt) (roll_taken rate + roll_taken (rate_of b.rates.syncs))

      fails-long : (o : Option WriteRates) (w : Words)
          → 0 + roll_taken rate ≤ (when_some o (λ r. failing_write (with_words b w) r h offset bs (roll_taken rate)) (struck Op.Write (with_words b w) [] (roll_taken rate))).taken
      fails-long None w = omega arith
      fails-long (Some r) w = omega arith

      goes-long : (y : Bool) (w : Words) → 0 + roll_taken rate ≤ (good_write (with_words b w) h offset bs y (roll_taken rate)).taken
      goes-long false w = omega arith
      goes-long true w =
          cond_both (rolled (rate_of b.rates.syncs) (after (roll_taken rate) w)) (plain w) (synced-to w) (λ o. 0 + roll_taken rate ≤ o.taken) (λ _. omega arith) (λ _. omega arith)

      fails : (o : Option WriteRates) → Local (λ w. when_some o (λ r. failing_write (with_words b w) r h offset bs (roll_taken rate)) (struck Op.Write (with_words b w) [] (roll_taken rate)))
      fails None w u k = refl
      fails (Some r) w u k =
          let n = roll_taken rate in
          let c = select_taken r.mode r.retention (length bs) (after n w) in
          let later = upto_rest n c w u k in
          rw (selected-upto r.mode r.retention (length bs) (after n w) (after n u) later, select-taken-upto r.mode r.retention (length bs) (after n w) (after n u) later)

      goes : (y : Bool) → Local (λ w. good_write (with_words b w) h offset bs y (roll_taken rate))
      goes false = λ w u k. refl
      goes true = local-roll (rate_of b.rates.syncs) (roll_taken rate) plain synced-to (λ w. omega arith) (λ w. omega arith) (λ w u k. refl) (λ w u k. refl)

  local-resize : (h len : ℕ) → Local (λ w. resize_step (with_words b w) h len)
  local-resize h len = local-turned (least (resize_fault b.store.handles h len) (full_fault b.log true)) b [] _ (rates b.rates.resizes)
    where
      low : ℕ
      low = min (size_in b.sizes h) len

      high : ℕ
      high = max (size_in b.sizes h) len

      span : ℕ
      span = high - low - 1

      part : ResizeRates → Words → Outcome Faulty Done
      part r w =
          resizing (with_words b w) h (low + 1 + picked span (after (roll_taken r.partial) (after (roll_taken r.failure) w))) true (Err (Injected Op.Resize))
          (roll_taken r.failure + roll_taken r.partial + pick_taken span)

      none : ResizeRates → Words → Outcome Faulty Done
      none r w = struck Op.Resize (with_words b w) [] (roll_taken r.failure + roll_taken r.partial)

      -- the pick
      local-part : (r : ResizeRates) → Local (part r)
      local-part r w u k =
          let rf = roll_taken r.failure in
          let rp = roll_taken r.partial in
          let ps = pick_taken span in
          let all : Upto (rf + (rp + ps)) w u = λ j l. k j (omega arith) in
          let later = upto_rest rf (rp + ps) w u all in
          rw (picked-upto span (after rp (after rf w)) (after rp (after rf u)) (upto_rest rp ps (after rf w) (after rf u) later))

      -- the partial roll, of which the lengths may make nothing
      local-both : (t : Bool) (r : ResizeRates) → Local (λ w. cond (rolled r.partial (after (roll_taken r.failure) w)) (cond t (part r w) (none r w)) (none r w))
      local-both t r =
          local-roll r.partial (roll_taken r.failure) (λ w. cond t (part r w) (none r w)) (none r) (λ w. long t w) (λ w. omega arith) (local-test t (part r) (none r) (local-part r) (λ w u k. refl)) (λ w u k. refl)
        where
          long : (t : Bool) (w : Words) → roll_taken r.failure + roll_taken r.partial ≤ (cond t (part r w) (none r w)).taken
          long true w = omega arith
          long false w = omega arith

      failing-is : (r : ResizeRates) (w : Words)
          → failing_resize (with_words b w) r h len (roll_taken r.failure) ≡ cond (rolled r.partial (after (roll_taken r.failure) w)) (cond (ltb 1 (high - low)) (part r w) (none r w)) (none r w)
      failing-is r w = grind arith

      local-failing : (r : ResizeRates) → Local (λ w. failing_resize (with_words b w) r h len (roll_taken r.failure))
      local-failing r = subst Local (fun_ext (λ w. sym (failing-is r w))) (local-both (ltb 1 (high - low)) r)

      -- the two rolls at the failure rate
      second : ResizeRates → Words → Outcome Faulty Done
      second r w = resizing (with_words b w) h len (rolled r.failure (after (roll_taken r.failure) w)) (Ok tt) (roll_taken r.failure + roll_taken r.failure)

      local_second : (r : ResizeRates) → Local (second r)
      local_second r w u k = let n = roll_taken r.failure in rw (rolled-upto r.failure (after n w) (after n u) (upto_rest n n w u k))

      failing-long : (r : ResizeRates) (w : Words) → 0 + roll_taken r.failure ≤ (failing_resize (with_words b w) r h len (roll_taken r.failure)).taken
      failing-long r w = go (rolled r.partial (after (roll_taken r.failure) w) && ltb 1 (high - low))
        where
          go : (t : Bool) → 0 + roll_taken r.failure ≤ (cond t (part r w) (none r w)).taken
          go true = omega arith
          go false = omega arith

      rates : (o : Option ResizeRates)
          → Local (λ w. when_some o
          (λ r. let n = roll_taken r.failure in
          cond (rolled r.failure w) (failing_resize (with_words b w) r h len n) (resizing (with_words b w) h len (rolled r.failure (after n w)) (Ok tt) (n + n)))
          (resizing (with_words b w) h len false (Ok tt) 0))
      rates None = λ w u k. refl
      rates (Some r) = local-roll r.failure 0 (λ w. failing_resize (with_words b w) r h len (roll_taken r.failure)) (second r) (failing-long r) (λ w. omega arith) (local-failing r) (local_second r)

  local-start : (h : ℕ) → Local (λ w. start_sync_step (with_words b w) h)
  local-start h =
      local-turned (least (held_fault b.store.handles h) (least (tickets_fault b) (full_fault b.log true))) b [] _
      (local-roll (rate_of b.rates.syncs) 0 (λ w. ticketed (with_words b w) (Err (Injected Op.Sync)) b.store b.log (roll_taken (rate_of b.rates.syncs)))
      (λ w. ticketed (with_words b w) (sync_answer b.store h) (synced b.store h) (log_for b h (λ g. recorded b.log (Marked g b.issued (is_ok (sync_answer b.store h))))) (roll_taken (rate_of b.rates.syncs)))
      (λ w. omega arith) (λ w. omega arith) (λ w u k. refl) (λ w u k. refl))

  local-settle : (t : ℕ) → Local (λ w. settle_step (with_words b w) t)
  local-settle t = go (find (λ k. eqb k.number t) b.tickets)
    where
      go : (o : Option Ticket) → Local (λ w. settling (with_words b w) t o)
      go None = λ w u k. refl
      go (Some x) = λ w u k. refl

  local-close : (h : ℕ) → Local (λ w. close_step (with_words b w) h)
  local-close h = local-turned (held_fault b.store.handles h) b [] _ (λ w u k. refl)

  local-configure : (r : Rates) → Local (λ w. configure_step (with_words b w) r)
  local-configure r = local-turned (cond (bad_rates r) (Some BadRate) None) b [] _ (λ w u k. refl)

-- The whole bench.
abbrev on_bench : {A : Type 0} → Outcome Bench A → Words → Outcome Bench A
on_bench o x = record { answer = o.answer; area = o.area; taken = o.taken; next = on_source o.next x }

abbrev LocalCall : {A : Type 0} → (Words → Outcome Bench A) → Type 0
LocalCall S = (w u : Words) → Upto (S w).taken w u → S u ≡ on_bench (S w) (after (S w).taken u)

-- a step of the layer below, carried up
local-up : {A B : Type 0} (F : Outcome Faulty A → Outcome Bench B) → ((o : Outcome Faulty A) → (F o).taken ≡ o.taken) → ((o : Outcome Faulty A) (x : Words) → F (on_words o x) ≡ on_bench (F o) x)
    → (S : Words → Outcome Faulty A) → Local S → LocalCall (λ w. F (S w))
local-up F long same S s w u h =
    let t = long (S w) in
    let k : Upto (S w).taken w u = λ j l. h j (rw t l) in
    ap F (s w u k) ∙ same (S w) (after (S w).taken u) ∙ ap (λ (n : ℕ). on_bench (F (S w)) (after n u)) (sym t)

-- the register's close of a handle that was just opened
close-words : (b : Faulty) (h : ℕ) (x : Words) → (close_step (with_words b x) h).next ≡ with_words (close_step b h).next x
close-words b h x = go (held_fault b.store.handles h)
  where
    go : (o : Option Fault) → (closing (with_words b x) h o).next ≡ with_words (closing b h o).next x
    go None = refl
    go (Some g) = refl

module _ (leases : List Lease) (p n area : List ℕ) where
  abbrev told : Outcome Faulty (Result (ℕ × ℕ) Fault) → Result (ℕ × ℕ) Fault → Outcome Bench Reply
  told o r = shown Opened area (registered leases p n o r)

  told-long : (o : Outcome Faulty (Result (ℕ × ℕ) Fault)) (r : Result (ℕ × ℕ) Fault) → (told o r).taken ≡ o.taken
  told-long o (Err f) = refl
  told-long o (Ok a) = go (leased leases p n)
    where
      go : (t : Bool)
          → (cond t (record { answer = Err AlreadyOpen; area = o.area; taken = o.taken; next = record { under = (close_step o.next a.0).next; leases = leases } })
          (lifted o (leases ++ (record { partition = p; name = n; handle = a.0 } ∷ [])))).taken ≡ o.taken
      go true = refl
      go false = refl

  told_same : (o : Outcome Faulty (Result (ℕ × ℕ) Fault)) (r : Result (ℕ × ℕ) Fault) (x : Words) → told (on_words o x) r ≡ on_bench (told o r) x
  told_same o (Err f) x = refl
  told_same o (Ok a) x = go (leased leases p n)
    where
      closed_again : (o : Outcome Faulty (Result (ℕ × ℕ) Fault)) (c : Faulty) → Outcome Bench Reply
      closed_again o c = record { answer = Opened (Err AlreadyOpen); area = area; taken = o.taken; next = record { under = c; leases = leases } }

      go : (t : Bool)
          → shown Opened area (cond t (record { answer = Err AlreadyOpen; area = o.area; taken = o.taken; next = record { under = (close_step (with_words o.next x) a.0).next; leases = leases } })
          (lifted (on_words o x) (leases ++ (record { partition = p; name = n; handle = a.0 } ∷ []))))
          ≡ on_bench (shown Opened area (cond t (record { answer = Err AlreadyOpen; area = o.area; taken = o.taken; next = record { under = (close_step o.next a.0).next; leases = leases } })
          (lifted o (leases ++ (record { partition = p; name = n; handle = a.0 } ∷ []))))) x
      go true = ap (closed_again o) (close-words o.next a.0 x)
      go false = refl

module _ (b : Bench) (area : List ℕ) where
  local-shown : {A : Type 0} (reply : A → Reply) (leases : A → List Lease) (S : Words → Outcome Faulty A) → Local S → LocalCall (λ w. shown reply area (lifted (S w) (leases (S w).answer)))
  local-shown reply leases S s = local-up (λ o. shown reply area (lifted o (leases o.answer))) (λ o. refl) (λ o x. refl) S s

  local-within : {A : Type 0} (reply : A → Reply) (start : ℕ) (S : Words → Outcome Faulty A) → Local S → LocalCall (λ w. within reply area start (lifted (S w) b.leases))
  local-within reply start S s = local-up (λ o. within reply area start (lifted o b.leases)) (λ o. refl) (λ o x. refl) S s

  local-call : (c : Call) → LocalCall (λ w. step (on_source b w) c area)
  local-call (Open p n header) =
      local-up (λ o. told b.leases p n area o o.answer) (λ o. told-long b.leases p n area o o.answer) (λ o x. told_same b.leases p n area o o.answer x)
      (λ w. open_step (with_words b.under w) p n header)
      (local-single (open_fault b.under.store p n header) (rate_of b.under.rates.opens) Op.Open b.under [] _ [] _ _ _)
  local-call (Remove p None) =
      local-shown Told (λ a. when_ok a (filter (λ l. not (bytes_eq l.partition p)) b.leases) b.leases) (λ w. remove_partition_step (with_words b.under w) p)
      (local-single (remove_partition_fault p) (rate_of b.under.rates.removes) Op.Remove b.under [] _ [] _ _ _)
  local-call (Remove p (Some n)) =
      local-shown Told (λ a. when_ok a (without (lease_of p n) b.leases) b.leases) (λ w. remove_step (with_words b.under w) p n)
      (local-single (remove_fault p n) (rate_of b.under.rates.removes) Op.Remove b.under [] _ [] _ _ _)
  local-call (Scan p start len) =
      local-within Counted start (λ w. scan_step (with_words b.under w) p (stretch area start len))
      (local-single (scan_fault p (length (stretch area start len))) (rate_of b.under.rates.scans) Op.Scan b.under (stretch area start len) _ _ b.under.store b.under.log b.under.sizes)
  local-call (Read h offset start len) =
      local-within Told start (λ w. read_step (with_words b.under w) h offset (stretch area start len))
      (local-single (held_fault b.under.store.handles h) (rate_of b.under.rates.reads) Op.Read b.under (stretch area start len) _ _ b.under.store b.under.log b.under.sizes)
  local-call (Write h offset bs sync) = local-shown Told (λ a. b.leases) (λ w. write_step (with_words b.under w) h offset bs sync) (local-write b.under h offset bs sync)
  local-call (Resize h len) = local-shown Told (λ a. b.leases) (λ w. resize_step (with_words b.under w) h len) (local-resize b.under h len)
  local-call (AskSize h) = local-shown Counted (λ a. b.leases) (λ w. size_step (with_words b.under w) h) (λ w u k. refl)
  local-call (Sync h) =
      local-shown Told (λ a. b.leases) (λ w. sync_step (with_words b.under w) h) (local-single (held_fault b.under.store.handles h) (rate_of b.under.rates.syncs) Op.Sync b.under [] _ [] _ _ _)
  local-call (StartSync h) = local-shown Counted (λ a. b.leases) (λ w. start_sync_step (with_words b.under w) h) (local-start b.under h)
  local-call (Settle t) = local-shown Told (λ a. b.leases) (λ w. settle_step (with_words b.under w) t) (local-settle b.under t)
  local-call (Close h) =
      local-shown Told (λ a. when_ok a (without (λ l. eqb l.handle h) b.leases) b.leases) (λ w. close_step (with_words b.under w) h) (local-close b.under h)
  local-call (Configure r) = local-shown Told (λ a. b.leases) (λ w. configure_step (with_words b.under w) r) (local-configure b.under r)
  local-call (Look p n start len) = local-within Counted start (λ w. look_step (with_words b.under w) p n (stretch area start len)) (λ w u k. refl)
  local-call Crash = local-shown Told (λ a. b.leases) (λ w. crash_step (with_words b.under w)) (local-crash b.under)
  local-call Restart = local-shown Told (λ a. []) (λ w. restart_step (with_words b.under w)) (λ w u k. refl)

-- Lists of calls.

-- a turn and the turns after it
abbrev joined : Outcome Bench Reply → Outcome Bench (List Turn) → Outcome Bench (List Turn)
joined o more = record { answer = record { reply = o.answer; words = o.taken } ∷ more.answer; area = more.area; taken = o.taken + more.taken; next = more.next }

-- a call leaves the words after those that it took
call-words : (b : Bench) (w : Words) (c : Call) (area : List ℕ) → (step (on_source b w) c area).next ≡ on_source (step (on_source b w) c area).next (after (step (on_source b w) c area).taken w)
call-words b w c area = ap (λ (o : Outcome Bench Reply). o.next) (local-call b area c w w (λ k l. refl))

run-local : (cs : List Call) (b : Bench) (area : List ℕ) → LocalCall (λ w. run_from (on_source b w) area cs)
run-local [] b area w u h = refl
run-local (c ∷ cs) b area w u h =
    let o = step (on_source b w) c area in
    let t = o.taken in
    let more = run_from o.next o.area cs in
    let first : step (on_source b u) c area ≡ on_bench o (after t u) = local-call b area c w u (upto-first t more.taken w u h) in
    let words = call-words b w c area in
    let rest = run-local cs o.next o.area (after t w) (after t u) in
    let same : run_from o.next o.area cs ≡ run_from (on_source o.next (after t w)) o.area cs = ap (λ (x : Bench). run_from x o.area cs) words in
    let long : Upto (run_from (on_source o.next (after t w)) o.area cs).taken (after t w) (after t u) =
    λ k l. upto_rest t more.taken w u h k (rw (ap (λ (x : Outcome Bench (List Turn)). x.taken) same) l) in
    let tail : run_from (on_source o.next (after t u)) o.area cs ≡ on_bench more (after more.taken (after t u)) =
    rest long ∙ ap (λ (x : Outcome Bench (List Turn)). on_bench x (after x.taken (after t u))) (sym same) in
    ap (λ (x : Outcome Bench Reply). joined x (run_from x.next x.area cs)) first ∙ ap (joined (on_bench o (after t u))) tail
    ∙ ap (λ (x : Words). on_bench (joined o more) x) (after-after more.taken t u)

pub agreement : Agreement
agreement w u area cs same =
    let e = run-local cs (fresh w) area w u same in
    record {
      answers = ap (λ (o : Outcome Bench (List Turn)). o.answer) e;
      area = ap (λ (o : Outcome Bench (List Turn)). o.area) e;
      taken = ap (λ (o : Outcome Bench (List Turn)). o.taken) e;
      files = ap (λ (o : Outcome Bench (List Turn)). o.next.under.store.volume.files) e;
      bench = ap (λ (o : Outcome Bench (List Turn)). o.next) e;
    }
