-- What holds between a bench and the ledger beside it after every call; and the calls that leave the ledger as it is.
use Rattle.std.proofs.Common.{◌≡◌, ℕ, ◌+◌, ◌<◌, Bool, true, false, cond, eqb, List, [], ◌∷◌, length, Some, None, Ok, Err, Option, Result, sym, refl, ap, ◌∙◌, subst, arith}
use Rattle.std.specs.List.{AllByRecursion}
use Rattle.std.proofs.lemmas.Bool.{cond_both, eqb-true}
use Rattle.fault.specs.declared.Op.{Op as Operation}
use Rattle.fault.specs.declared.Fault.{Fault}
use Rattle.fault.specs.declared.Fault.TheVariants.{NoTicket, BadRate}
use Rattle.draw.specs.Words.{Words, after, rolled, roll_taken}
use Rattle.draw.specs.Selections.{selected, select_taken}
use Rattle.std.specs.List.{find}
use Rattle.store.specs.Tables.{without}
use Rattle.fault.specs.declared.Op.TheVariants as Op
use Rattle.store.specs.declared.file.File.{File}
use Rattle.store.specs.declared.handle.Handle.{Handle}
use Rattle.store.specs.Meaning.{Volume, Done, with_files, with_volume, when_some}
use Rattle.store.specs.Live.{numbered, handle_at, held_fault}
use Rattle.store.specs.Durable.{generated, file_of, scan_fault, crash_written, crash_resized}
use Rattle.steps.specs.Log.{Entry, Wrote, Resized, Marked, marks, kept, settled, replayed}
use Rattle.steps.specs.State.{Faulty, Outcome, Rates, rate_of, Ticket, least, with_words}
use Rattle.steps.specs.Faulty.{turned, struck, rolling, done, scan_step, read_step, size_step, look_step, settle_step, configure_step, bad_rates, crash_step, restart_step}
use Rattle.steps.specs.Calls.{Call, Scan, Read, Size, Settle, Look, Configure, Crash, Restart, Reply, Counted, Told}
use Rattle.reached.specs.Sound.{Sound}
use Rattle.reached.proofs.Lists.{all_found, found-passes}
use Rattle.reached.proofs.Steps.{restart-sound}
use Rattle.laws.specs.Pages.{Page, fix_whole}
use Rattle.laws.specs.Ledger.{Ledger, early_fault, early, feed, content_of}
use Rattle.laws.specs.Promises.{taken}
use Rattle.laws.proofs.Since.{since-settled}
use Rattle.laws.proofs.Replay.{crash-sound}
use Rattle.laws.proofs.Keeps.{Kept, kept_same, kept-crash, kept-restart}

-- the ledger that knows what the bench has
abbrev pub note_of : Faulty → (ℕ → Page) → Ledger
note_of b pages = record { rates = b.rates; sizes = b.sizes; store = b.store; pages = pages }

abbrev pub KeptIn : Faulty → (ℕ → Page) → Type 0
KeptIn b pages = Kept b.store.volume b.store.generations b.log pages

pub record Good (b : Faulty) (l : Ledger) : Type 0 where
  pub agree : l ≡ note_of b l.pages
  pub sound : Sound b.store
  pub kept : KeptIn b l.pages

pub good : (b : Faulty) (pages : ℕ → Page) → Sound b.store → KeptIn b pages → Good b (note_of b pages)
good b pages s k = record { agree = refl; sound = s; kept = k }

pub good-as : {b : Faulty} {l m : Ledger} → Good b m → l ≡ m → Good b l
good-as {b} {l} {m} h e = rw e h

-- a call's outcome is good: the ledger is fed its answer, the words that it took and the files after it
abbrev pub Goes : {A : Type 0} → Faulty → (ℕ → Page) → Call → (A → Reply) → Outcome Faulty A → Type 0
Goes b pages c reply o = Good o.next (feed (note_of b pages) c (reply o.answer) (taken o.taken b.words) o.next.store.volume.files)

pub goes-as : {A : Type 0} (b : Faulty) (pages : ℕ → Page) (c : Call) (reply : A → Reply) {o n : Outcome Faulty A} → o ≡ n → Goes b pages c reply n → Goes b pages c reply o
goes-as b pages c reply e h = subst (Goes b pages c reply) (sym e) h

pub cond_same : {A : Type 0} (t : Bool) (x : A) → cond t x x ≡ x
cond_same true x = refl
cond_same false x = refl

-- a refusal or an outcome
pub turned-both : {A : Type 0} (f : Option Fault) (b : Faulty) (area : List ℕ) (o : Outcome Faulty (Result A Fault)) (P : Outcome Faulty (Result A Fault) → Type 0)
    → ((g : Fault) → f ≡ Some g → P (record { answer = Err g; area = area; taken = 0; next = b })) → (f ≡ None → P o) → P (turned f b area o)
turned-both None b area o P r k = k refl
turned-both (Some g) b area o P r k = r g refl

-- a fault that is met before any draw has a number up to 8
abbrev pub Early : Option Fault → Type 0
Early None = Unit {0}
Early (Some g) = early_fault g ≡ true

pub early-least : (f g : Option Fault) → Early f → Early g → Early (least f g)
early-least None g a b = b
early-least (Some f) None a b = a
early-least (Some f) (Some g) a b = cond_both _ (Some g) (Some f) Early (λ _. b) (λ _. a)

pub early-cond : (t : Bool) (f g : Option Fault) → Early f → Early g → Early (cond t f g)
early-cond true f g a b = a
early-cond false f g a b = b

pub least-none : (f g : Option Fault) → least f g ≡ None → (f ≡ None) × (g ≡ None)
least-none None g e = (refl, e)
least-none (Some f) None e = cc
least-none (Some f) (Some g) e = grind arith

module _ (b : Faulty) (pages : ℕ → Page) (snd : Sound b.store) (kp : KeptIn b pages) where
  pub unchanged : Good b (note_of b pages)
  unchanged = good b pages snd kp

  -- only words were drawn
  pub drawn : (w : Words) → Good (with_words b w) (note_of b pages)
  drawn w = record { agree = refl; sound = snd; kept = kp }

  -- a refusal before any draw leaves both as they are
  pub refusal-good : {A : Type 0} (c : Call) (reply : A → Reply) (a : A) (area : List ℕ) → early (reply a) ≡ true → Goes b pages c reply (record { answer = a; area = area; taken = 0; next = b })
  refusal-good c reply a area e = good-as unchanged (rw e)

  -- a call that is refused before any draw, or goes on
  pub turned-good : {A : Type 0} (c : Call) (reply : Result A Fault → Reply) → ((g : Fault) → early (reply (Err g)) ≡ early_fault g)
      → (f : Option Fault) → Early f → (area : List ℕ) (o : Outcome Faulty (Result A Fault)) → (f ≡ None → Goes b pages c reply o) → Goes b pages c reply (turned f b area o)
  turned-good c reply same None a area o k = k refl
  turned-good c reply same (Some g) a area o k = refusal-good c reply (Err g) area (same g ∙ a)

  -- what a held handle is
  pub record Held (x : Handle) : Type 0 where
    pub issued : x.generation < b.store.generations
    pub header : (f : File) → file_of b.store.volume x.generation ≡ Some f → f.header ≡ x.header

  pub held-handle : (n : ℕ) (x : Handle) → handle_at b.store.handles n ≡ Some x → Held x
  held-handle n x e =
      let agrees = all_found (λ (h : Handle). AllByRecursion (λ (f : File). h.generation ≡ f.generation → h.header ≡ f.header) b.store.volume.files) (numbered n) b.store.handles x e snd.headers in
      record {
        issued = all_found (λ (h : Handle). h.generation < b.store.generations) (numbered n) b.store.handles x e snd.handles.generations_issued;
        header = λ f q. sym (all_found (λ (y : File). x.generation ≡ y.generation → x.header ≡ y.header) (generated x.generation) b.store.volume.files f q agrees
            (sym (eqb-true f.generation x.generation (found-passes (generated x.generation) b.store.volume.files f q))));
      }

-- a crash leaves the partitions
pub replayed-partitions : (es : List Entry) (v : Volume) (w : Words) → (replayed es v w).0.partitions ≡ v.partitions
replayed-partitions [] v w = refl
replayed-partitions (Wrote g o os m r ∷ es) v w =
    let n = select_taken m r (length os) w in
    let v' = crash_written v g o (kept (selected m r (length os) w) os) in
    cond_both (marks g es) (replayed es v w) ((replayed es v' (after n w)).0, n + (replayed es v' (after n w)).1) (λ u. u.0.partitions ≡ v.partitions)
    (λ _. replayed-partitions es v w) (λ _. replayed-partitions es v' (after n w))
replayed-partitions (Resized g len ∷ es) v w =
    cond_both (marks g es) (replayed es v w) (replayed es (crash_resized v g len) w) (λ u. u.0.partitions ≡ v.partitions)
    (λ _. replayed-partitions es v w) (λ _. replayed-partitions es (crash_resized v g len) w)
replayed-partitions (Marked g t s ∷ es) v w = replayed-partitions es v w

-- Calls that leave all but the words as they are.
pub record Quiet {A : Type 0} (b : Faulty) (o : Outcome Faulty A) : Type 0 where
  pub rates : o.next.rates ≡ b.rates
  pub sizes : o.next.sizes ≡ b.sizes
  pub store : o.next.store ≡ b.store
  pub log : o.next.log ≡ b.log

quiet-turned : {A : Type 0} (f : Option Fault) (b : Faulty) (area : List ℕ) (o : Outcome Faulty (Result A Fault)) → Quiet b o → Quiet b (turned f b area o)
quiet-turned None b area o q = q
quiet-turned (Some g) b area o q = record { rates = refl; sizes = refl; store = refl; log = refl }

quiet-rolling : {A : Type 0} (rate : ℕ) (op : Operation) (b : Faulty) (area : List ℕ) (o : Outcome Faulty (Result A Fault)) → Quiet b o → Quiet b (rolling rate op b area o)
quiet-rolling rate op b area o q = cond_both (rolled rate b.words) (struck op b area (roll_taken rate)) o (Quiet b) (λ _. record { rates = refl; sizes = refl; store = refl; log = refl }) (λ _. q)

quiet-done : {A : Type 0} (a : A) (area : List ℕ) (n : ℕ) (b : Faulty) → Quiet b (done a area n b)
quiet-done a area n b = record { rates = refl; sizes = refl; store = refl; log = refl }

-- settle and configure, by what they test
abbrev pub settling : Faulty → ℕ → Option Ticket → Outcome Faulty Done
settling b t o =
    when_some o
    (λ k. done k.result [] 0 (record {
      store = b.store;
      words = b.words;
      log = settled b.log t;
      rates = b.rates;
      sizes = b.sizes;
      tickets = without (λ x. eqb x.number t) b.tickets;
      issued = b.issued;
    }))
    (done (Err NoTicket) [] 0 b)

abbrev pub configuring : Faulty → Rates → Bool → Outcome Faulty Done
configuring b r bad =
    turned (cond bad (Some BadRate) None) b []
    (done (Ok tt) [] 0 (record { store = b.store; words = b.words; log = b.log; rates = r; sizes = b.sizes; tickets = b.tickets; issued = b.issued }))

-- a state that has what another has
pub good-like : (b n : Faulty) (l : Ledger) → n.rates ≡ b.rates → n.sizes ≡ b.sizes → n.store ≡ b.store → n.log ≡ b.log → Good b l → Good n l
good-like b n l r z s e g = record {
  agree = g.agree ∙ note (sym r) (sym z) (sym s);
  sound = rw s g.sound;
  kept = rw (s, e) g.kept;
}
  where
    note : b.rates ≡ n.rates → b.sizes ≡ n.sizes → b.store ≡ n.store → note_of b l.pages ≡ note_of n l.pages
    note r z s = rw (r, z, s)

pub scan-quiet : (b : Faulty) (p area : List ℕ) → Quiet b (scan_step b p area)
scan-quiet b p area =
    quiet-turned (scan_fault p (length area)) b area _ (quiet-rolling (rate_of b.rates.scans) Op.Scan b area _ (quiet-done _ _ (roll_taken (rate_of b.rates.scans)) b))

pub read-quiet : (b : Faulty) (h offset : ℕ) (area : List ℕ) → Quiet b (read_step b h offset area)
read-quiet b h offset area =
    quiet-turned (held_fault b.store.handles h) b area _ (quiet-rolling (rate_of b.rates.reads) Op.Read b area _ (quiet-done _ _ (roll_taken (rate_of b.rates.reads)) b))

pub size-quiet : (b : Faulty) (h : ℕ) → Quiet b (size_step b h)
size-quiet b h = quiet-done _ [] 0 b

pub look-quiet : (b : Faulty) (p n area : List ℕ) → Quiet b (look_step b p n area)
look-quiet b p n area = quiet-done _ _ 0 b

module _ (b : Faulty) (pages : ℕ → Page) (snd : Sound b.store) (kp : KeptIn b pages) where
  quiet-good : {A : Type 0} (o : Outcome Faulty A) (t : Bool) → Quiet b o → Good o.next (cond t (note_of b pages) (note_of b pages))
  quiet-good o t q = good-as (good-like b o.next (note_of b pages) q.rates q.sizes q.store q.log (good b pages snd kp)) (cond_same t (note_of b pages))

  pub scan_good : (p : List ℕ) (start len : ℕ) (area : List ℕ) → Goes b pages (Scan p start len) Counted (scan_step b p area)
  scan_good p start len area = quiet-good (scan_step b p area) _ (scan-quiet b p area)

  pub read-good : (h offset start len : ℕ) (area : List ℕ) → Goes b pages (Read h offset start len) Told (read_step b h offset area)
  read-good h offset start len area = quiet-good (read_step b h offset area) _ (read-quiet b h offset area)

  pub size-good : (h : ℕ) → Goes b pages (Size h) Counted (size_step b h)
  size-good h = quiet-good (size_step b h) _ (size-quiet b h)

  pub look-good : (p n : List ℕ) (start len : ℕ) (area : List ℕ) → Goes b pages (Look p n start len) Counted (look_step b p n area)
  look-good p n start len area = quiet-good (look_step b p n area) _ (look-quiet b p n area)

  -- settling leaves what a crash would replay
  pub settle-good : (t : ℕ) → Goes b pages (Settle t) Told (settle_step b t)
  settle-good t = go (find (λ k. eqb k.number t) b.tickets)
    where
      go : (o : Option Ticket) → Goes b pages (Settle t) Told (settling b t o)
      go None = unchanged b pages snd kp
      go (Some k) = good-as (record { agree = refl; sound = snd; kept = kept_same (λ h. refl) (λ h d. since-settled h d t b.log) kp }) (cond_same (early (Told k.result)) (note_of b pages))

  pub configure-good : (r : Rates) → Goes b pages (Configure r) Told (configure_step b r)
  configure-good r = go (bad_rates r) refl
    where
      go : (t : Bool) → bad_rates r ≡ t → Goes b pages (Configure r) Told (configuring b r t)
      go true e = unchanged b pages snd kp
      go false e = good-as (record { agree = refl; sound = snd; kept = kp }) (rw e)

  pub restart-good : Goes b pages Restart Told (restart_step b)
  restart-good = record { agree = refl; sound = restart-sound b.store snd; kept = kept-restart kp }

  pub crash-good : Goes b pages Crash Told (crash_step b)
  crash-good =
      let v = (replayed b.log b.store.volume b.words).0 in
      good-as (record { agree = refl; sound = crash-sound b.store b.log b.words snd; kept = kept-crash v })
      (ap (λ (x : Volume). ledger_at x) (same-volume (replayed-partitions b.log b.store.volume b.words)))
    where
      ledger_at : Volume → Ledger
      ledger_at x = record { rates = b.rates; sizes = b.sizes; store = with_volume b.store x; pages = λ g. fix_whole (content_of (file_of x g)) }

      same-volume : {v : Volume} → v.partitions ≡ b.store.volume.partitions → with_files b.store.volume v.files ≡ v
      same-volume {v} e = rw (← e)
