-- Each call keeps the sizes, and so the size promise holds.
use Rattle.std.proofs.Common.{◌≡◌, ℕ, ◌+◌, ◌^◌, ◌<◌, ◌≤◌, Bool, true, false, cond, not, eqb, ltb, leb, ◌⊎◌, List, [], ◌∷◌, ◌++◌, map, length, Some, None, Ok, Err, Decides, filter, Option, Result, sym, refl, ap, ◌∙◌, subst, inl, inr, arith, rules}
use Rattle.std.proofs.lemmas.Bool.Decides.{nat_tests}
use Rattle.std.specs.Result.{is_ok}
use Rattle.std.specs.Str.{bytes_eq}
use Rattle.std.proofs.lemmas.List.{same_lists, places}
use Rattle.std.proofs.ByRecursion.{All-weaker, All-push}
use Rattle.std.proofs.lemmas.Bool.{cond_both, cond-true, eq-eqb, ne_eqb, cases_eq, eqb-true, leb-true, leb-false, ltb-false, false≢true}
use Rattle.fault.specs.declared.Op.{Op as Operation}
use Rattle.fault.specs.declared.Op.TheVariants as Op
use Rattle.fault.specs.declared.Fault.{Fault}
use Rattle.fault.specs.declared.Fault.TheVariants.{BadRate, AlreadyOpen, Injected, InsufficientLength, ReadOverflow}
use Rattle.draw.specs.Words.{Words, after, rolled, roll_taken}
use Rattle.content.specs.Bytes.{limit}
use Rattle.name.specs.Names.{is_partition}
use Rattle.std.specs.List.{find}
use Rattle.store.specs.Tables.{without}
use Rattle.store.proofs.Keys.{found-without-other, found-without-none, found-kept-none, found_push_other, found-push-new, found-push-same}
use Rattle.store.proofs.Finds.{without-none}
use Rattle.store.specs.declared.file.File.{File}
use Rattle.store.specs.declared.handle.Handle.{Handle}
use Rattle.store.specs.Meaning.{Disk, Volume, Done, with_files, with_volume, when_some, when_ok}
use Rattle.store.specs.Live.{numbered, handle_at, closed, held_fault, read_of, read_bytes}
use Rattle.store.specs.Durable.{named, generated, in_partition, file_of, new_file, opened_file, opened_volume, remove_fault, remove_answer, removed, remove_partition_fault, remove_partition_answer, removed_partition, durable_replaced}
use Rattle.store.specs.Whole.{open_fault, open_answer, opened, closed_disk, synced}
use Rattle.steps.specs.Log.{replayed}
use Rattle.steps.specs.State.{Faulty, Bench, Outcome, Size, Rates, Ticket, rate_of}
use Rattle.steps.specs.Faulty.{turned, struck, rolling, done, is_size, sizes_with, open_step, read_step, remove_step, remove_partition_step, write_step, resize_step, sync_step, start_sync_step, settle_step, close_step, configure_step, bad_rates, restart_step, crash_step}
use Rattle.steps.specs.Register.{leased, lifted, registered, open_call}
use Rattle.steps.specs.Calls.{Call, Open, Remove, Scan, Read, Write, Resize, Size as AskSize, Sync, StartSync, Settle, Close, Configure, Look, Crash, Restart, Told, stretch, replaced, within, below, step}
use Rattle.reached.specs.Sound.{Sound, Sized, Distinct}
use Rattle.reached.proofs.Lists.{all_found, all_without, found-passes}
use Rattle.reached.proofs.Runs.{open-sound}
use Rattle.laws.specs.Promises.{Watched, watch, watched, begun, ledger, left, Reads, SizesHold, SizePromise}
use Rattle.laws.proofs.Places.{none-some}
use Rattle.laws.proofs.Promise.{GoodNow, watch-good, all-good, watched-bench}
use Rattle.laws.proofs.Replay.{crash-none}
use Rattle.laws.proofs.Files.{gone-without, unissued}
use Rattle.laws.proofs.Walks.{after-turned, after-rolling, write-walk, resize-walk, sync-walk, start-walk}
use Rattle.laws.proofs.Good.{Good, settling, Quiet, scan-quiet, read-quiet, size-quiet, look-quiet}
use Rattle.laws.proofs.Opens.{opened_ok, first_size, opened-ok}
use Rattle.laws.proofs.Sizes.{SizeInv, NoneNew, none-new-from, none-new-changed, sizes-fewer, write-sizes, resize-sizes, ran-sizes}

-- an old generation has the file that it had
opened-old : (v : Volume) (p n header : List ℕ) (gens g : ℕ) → g < gens → file_of (opened_volume v p n header gens) g ≡ file_of v g
opened-old v p n header gens g l = grind (arith, nat_tests, found_push_other (generated g) v.files (new_file p n header gens))

open-ok-sizes : (m : Disk) (p n header : List ℕ) (ss : List Size) → Sound m → Sound (opened_ok m p n header) → SizeInv m ss
    → SizeInv (opened_ok m p n header) (ss ++ (record { handle = m.issued; size = first_size m p n header } ∷ []))
open-ok-sizes m p n header ss snd after i = record {
  sized = λ k h q. go k h q (cases_eq m.issued k);
  issued = All-push (λ (s : Size). s.handle < m.issued + 1) ss _ (All-weaker _ _ (λ s l. omega arith) ss i.issued) (omega arith);
}
  where
    go : (k : ℕ) (h : Handle) → handle_at (opened_ok m p n header).handles k ≡ Some h → (m.issued ≡ k) ⊎ (m.issued ≡ k → ⊥)
        → (s : Size) × (find (is_size k) (ss ++ (record { handle = m.issued; size = first_size m p n header } ∷ [])) ≡ Some s)
        × ((f : File) → file_of (opened_ok m p n header).volume h.generation ≡ Some f → s.size + h.header ≡ length h.live)
    go k h q (inl t) =
        let none = unissued (λ (x : Handle). x.number) k m.handles (All-weaker _ _ (λ x l. omega arith) m.handles snd.handles.numbers_issued) in
        let is : Some _ ≡ Some h = sym (found-push-new (numbered k) m.handles _ none (eq-eqb m.issued k t)) ∙ q in
        let free = unissued (λ (s : Size). s.handle) k ss (All-weaker _ _ (λ s l. omega arith) ss i.issued) in
        let whole = (all_found (λ (x : Handle). Sized x.header x.live) (numbered k) (opened_ok m p n header).handles h q after.handles.handles_sized).whole in
        (record { handle = m.issued; size = first_size m p n header }, found-push-new (is_size k) ss _ free (eq-eqb m.issued k t), λ f z. sum h is whole)
      where
        new : Handle
        new = record {
          number = m.issued;
          generation = (opened_file m.volume p n header m.generations).generation;
          header = (opened_file m.volume p n header m.generations).header;
          live = (opened_file m.volume p n header m.generations).durable;
        }

        sum : (h : Handle) → Some new ≡ Some h → h.header ≤ length h.live → first_size m p n header + h.header ≡ length h.live
        sum h e l = let s : new ≡ h = cc in subst (λ (x : Handle). x.header ≤ length x.live → first_size m p n header + x.header ≡ length x.live) s (λ y. omega arith) l
    go k h q (inr d) =
        let old : handle_at m.handles k ≡ Some h = sym (found_push_other (numbered k) m.handles _ (ne_eqb m.issued k d)) ∙ q in
        let o = i.sized k h old in
        let g = all_found (λ (x : Handle). x.generation < m.generations) (numbered k) m.handles h old snd.handles.generations_issued in
        (o.0, found-push-same (is_size k) ss _ o.0 o.1, λ f z. o.2 f (sym (opened-old m.volume p n header m.generations h.generation g) ∙ z))

open-sizes : (m : Disk) (p n header : List ℕ) (ss : List Size) → Sound m → SizeInv m ss → SizeInv (opened m p n header) (sizes_with ss (open_answer m p n header))
open-sizes m p n header ss snd i = go (open_fault m p n header) refl (is_partition p) refl
  where
    go : (o : Option Fault) → open_fault m p n header ≡ o → (t : Bool) → is_partition p ≡ t → SizeInv (opened m p n header) (sizes_with ss (open_answer m p n header))
    go (Some g) f t v = rw f i
    go None f false v = rw (f, v) i
    go None f true v = rw (f, v) (open-ok-sizes m p n header ss snd (rw (opened-ok m p n header f v) at (open-sound m p n header snd)) i)

-- once a handle is closed, none has its number
pub closed_none : (hs : List Handle) (n : ℕ) → Distinct (map (λ h. h.number) hs) → handle_at (closed hs n) n ≡ None
closed_none hs n d = go (handle_at hs n) refl
  where
    go : (o : Option Handle) → handle_at hs n ≡ o → handle_at (closed hs n) n ≡ None
    go None e = ap (λ (xs : List Handle). handle_at xs n) (without-none (numbered n) hs e) ∙ e
    go (Some y) e =
        let s : y.number ≡ n = eqb-true y.number n (found-passes (numbered n) hs y e) in
        rw s at (gone-without (λ (h : Handle). h.number) (numbered n) hs y e d)

close-sizes : (m : Disk) (n : ℕ) (ss : List Size) → Sound m → SizeInv m ss → SizeInv (closed_disk m n) (without (is_size n) ss)
close-sizes m n ss snd i = record {
  sized = λ k h q. go k h q (cases_eq n k);
  issued = all_without (λ (s : Size). s.handle < m.issued) (is_size n) ss i.issued;
}
  where
    go : (k : ℕ) (h : Handle) → handle_at (closed m.handles n) k ≡ Some h → (n ≡ k) ⊎ (n ≡ k → ⊥)
        → (s : Size) × (find (is_size k) (without (is_size n) ss) ≡ Some s) × ((f : File) → file_of m.volume h.generation ≡ Some f → s.size + h.header ≡ length h.live)
    go k h q (inl t) =
        absurd (none-some (closed_none m.handles n snd.handles.numbers_distinct) (ap (handle_at (closed m.handles n)) t ∙ q))
    go k h q (inr d) =
        let o = i.sized k h (sym (found-without-other (numbered k) (numbered n) (λ x t. ne_eqb x.number k (λ r. d (sym (eqb-true x.number n t) ∙ r))) m.handles) ∙ q) in
        (o.0, found-without-other (is_size k) (is_size n) (λ x t. ne_eqb x.handle k (λ r. d (sym (eqb-true x.handle n t) ∙ r))) ss ∙ o.1, o.2)

-- A state, by its store and its sizes.
abbrev pub Counted : Faulty → Type 0
Counted b = SizeInv b.store b.sizes

turned-next : {A : Type 0} (f : Option Fault) (b : Faulty) (area : List ℕ) (o : Outcome Faulty (Result A Fault)) → Counted b → Counted o.next → Counted (turned f b area o).next
turned-next f b area o i k = after-turned SizeInv f b area o i k

rolling-next : {A : Type 0} (rate : ℕ) (op : Operation) (b : Faulty) (area : List ℕ) (o : Outcome Faulty (Result A Fault)) → Counted b → Counted o.next → Counted (rolling rate op b area o).next
rolling-next rate op b area o i k = after-rolling SizeInv rate op b area o i k

open-step-sound : (b : Faulty) (p n header : List ℕ) → Sound b.store → Sound (open_step b p n header).next.store
open-step-sound b p n header s =
    after-turned (λ m _. Sound m) (open_fault b.store p n header) b [] _ s (after-rolling (λ m _. Sound m) (rate_of b.rates.opens) Op.Open b [] _ s (open-sound b.store p n header s))

volume-next : (b : Faulty) (v : Volume) → NoneNew b.store.volume v → Counted b → SizeInv (with_volume b.store v) b.sizes
volume-next b v new i = record { sized = sizes-fewer b.store.handles b.store.volume v b.sizes new i.sized; issued = i.issued }

quiet_next : {A : Type 0} (b : Faulty) (o : Outcome Faulty A) → Quiet b o → Counted b → Counted o.next
quiet_next b o q i = rw (q.store, q.sizes) i

module _ (b : Faulty) (snd : Sound b.store) (i : Counted b) where
  open_next : (p n header : List ℕ) → Counted (open_step b p n header).next
  open_next p n header =
      turned-next (open_fault b.store p n header) b [] _ i (rolling-next (rate_of b.rates.opens) Op.Open b [] _ i (open-sizes b.store p n header b.sizes snd i))

  pub close-next : (h : ℕ) → Counted (close_step b h).next
  close-next h = turned-next (held_fault b.store.handles h) b [] _ i (close-sizes b.store h b.sizes snd i)

  remove-next : (p n : List ℕ) → Counted (remove_step b p n).next
  remove-next p n =
      turned-next (remove_fault p n) b [] _ i (rolling-next (rate_of b.rates.removes) Op.Remove b [] _ i (volume-next b (removed v p n) (fewer (remove_answer v p n)) i))
    where
      v : Volume
      v = b.store.volume

      fewer : (r : Done) → NoneNew b.store.volume (when_ok r (with_files b.store.volume (without (named p n) b.store.volume.files)) b.store.volume)
      fewer (Ok u) = none-new-from b.store.volume (with_files b.store.volume (without (named p n) b.store.volume.files)) (λ g e. found-without-none (generated g) (named p n) b.store.volume.files e)
      fewer (Err g) = none-new-from b.store.volume b.store.volume (λ g e. e)

  remove-partition-next : (p : List ℕ) → Counted (remove_partition_step b p).next
  remove-partition-next p =
      turned-next (remove_partition_fault p) b [] _ i (rolling-next (rate_of b.rates.removes) Op.Remove b [] _ i (volume-next b (removed_partition b.store.volume p) (fewer (remove_partition_answer b.store.volume p)) i))
    where
      fewer : (r : Done) → NoneNew b.store.volume
          (when_ok r (record { partitions = without (λ q. bytes_eq q p) b.store.volume.partitions; files = filter (λ f. not (in_partition p f)) b.store.volume.files }) b.store.volume)
      fewer (Ok u) = none-new-from b.store.volume (record { partitions = without (λ q. bytes_eq q p) b.store.volume.partitions; files = filter (λ f. not (in_partition p f)) b.store.volume.files })
          (λ g e. found-kept-none (generated g) (λ f. not (in_partition p f)) b.store.volume.files e)
      fewer (Err g) = none-new-from b.store.volume b.store.volume (λ g e. e)

  synced-next : (h : ℕ) → SizeInv (synced b.store h) b.sizes
  synced-next h = go (handle_at b.store.handles h)
    where
      go : (o : Option Handle) → SizeInv (with_volume b.store (when_some o (λ x. durable_replaced b.store.volume x.generation x.live) b.store.volume)) b.sizes
      go None = i
      go (Some x) = volume-next b (durable_replaced b.store.volume x.generation x.live) (none-new-changed b.store.volume x.generation (λ _. x.live)) i

  sync-next : (h : ℕ) → Counted (sync_step b h).next
  sync-next h = sync-walk SizeInv b i synced-next h

  start-next : (h : ℕ) → Counted (start_sync_step b h).next
  start-next h = start-walk SizeInv b i synced-next h

  settle-next : (t : ℕ) → Counted (settle_step b t).next
  settle-next t = go (find (λ k. eqb k.number t) b.tickets)
    where
      go : (o : Option Ticket) → Counted (settling b t o).next
      go None = i
      go (Some k) = i

  configure-next : (r : Rates) → Counted (configure_step b r).next
  configure-next r = turned-next (cond (bad_rates r) (Some BadRate) None) b [] _ i i

  crash-next : Counted (crash_step b).next
  crash-next =
      volume-next b (replayed b.log b.store.volume b.words).0 (none-new-from b.store.volume (replayed b.log b.store.volume b.words).0 (λ g e. crash-none g b.log b.store.volume b.words e)) i

  restart-next : Counted (restart_step b).next
  restart-next = record { sized = λ n h e. absurd (none-some refl e); issued = tt }

  write-next : (h offset : ℕ) (bs : List ℕ) (sync : Bool) → Counted (write_step b h offset bs sync).next
  write-next h offset bs sync =
      write-walk SizeInv b i (λ n o cs y. write-sizes b.store n o cs y b.sizes i) (λ rs n. ran-sizes rs n b.store b.sizes i) h offset bs sync

  resize-next : (h len : ℕ) → Counted (resize_step b h len).next
  resize-next h len = resize-walk SizeInv b i (λ n k. resize-sizes b.store n k b.sizes i) h len

-- Every call.
module _ (b : Bench) (snd : Sound b.under.store) (i : Counted b.under) (area : List ℕ) where
  registered-next : (p n header : List ℕ) → Counted (open_call b p n header).next.under
  registered-next p n header = go (open_step b.under p n header).answer
    where
      go : (r : Result (ℕ × ℕ) Fault) → Counted (registered b.leases p n (open_step b.under p n header) r).next.under
      go (Err f) = open_next b.under snd i p n header
      go (Ok a) =
          let o = open_step b.under p n header in
          cond_both (leased b.leases p n)
          (record { answer = Err AlreadyOpen; area = o.area; taken = o.taken; next = record { under = (close_step o.next a.0).next; leases = b.leases } })
          (lifted o (b.leases ++ (record { partition = p; name = n; handle = a.0 } ∷ []))) (λ x. Counted x.next.under)
          (λ _. close-next o.next (open-step-sound b.under p n header snd) (open_next b.under snd i p n header) a.0) (λ _. open_next b.under snd i p n header)

  call_next : (c : Call) → Counted (step b c area).next.under
  call_next (Open p n header) = registered-next p n header
  call_next (Remove p None) = remove-partition-next b.under snd i p
  call_next (Remove p (Some n)) = remove-next b.under snd i p n
  call_next (Scan p start len) = quiet_next b.under _ (scan-quiet b.under p (stretch area start len)) i
  call_next (Read h offset start len) = quiet_next b.under _ (read-quiet b.under h offset (stretch area start len)) i
  call_next (Write h offset bs sync) = write-next b.under snd i h offset bs sync
  call_next (Resize h len) = resize-next b.under snd i h len
  call_next (AskSize h) = quiet_next b.under _ (size-quiet b.under h) i
  call_next (Sync h) = sync-next b.under snd i h
  call_next (StartSync h) = start-next b.under snd i h
  call_next (Settle t) = settle-next b.under snd i t
  call_next (Close h) = close-next b.under snd i h
  call_next (Configure r) = configure-next b.under snd i r
  call_next (Look p n start len) = quiet_next b.under _ (look-quiet b.under p n (stretch area start len)) i
  call_next Crash = crash-next b.under snd i
  call_next Restart = restart-next b.under snd i

watched-counted : (cs : List Call) (s : Watched) → GoodNow s → Counted s.bench.under → Counted (watched s cs).bench.under
watched-counted [] s g i = i
watched-counted (c ∷ cs) s g i = watched-counted cs (watch s c) (watch-good s c g) (call_next s.bench g.sound i s.area c)

all-counted : (w : Words) (area : List ℕ) (cs : List Call) → Counted (left w area cs).under
all-counted w area cs =
    subst (λ (b : Bench). Counted b.under) (watched-bench w area cs)
    (watched-counted cs (begun w area) (all-good w area []) (record { sized = λ n h e. absurd (none-some refl e); issued = tt }))

-- a stretch put back leaves the area as it is
put_back : (area : List ℕ) (start len : ℕ) → replaced area start (stretch area start len) ≡ area
put_back area start len = same_lists _ _ (search (rules, places)) (λ k d h. grind (arith, places))

-- a read through a held handle
read_held : (b : Faulty) (n offset : ℕ) (area : List ℕ) (h : Handle) → handle_at b.store.handles n ≡ Some h
    → read_step b n offset area
    ≡ rolling (rate_of b.rates.reads) Op.Read b area
    (done (read_of h offset (length area)) (when_ok (read_of h offset (length area)) (read_bytes h offset (length area)) area) (roll_taken (rate_of b.rates.reads)) b)
read_held b n offset area h e = rw e

read-decides : (h : Handle) (offset len size : ℕ) → size + h.header ≡ length h.live → length h.live ≤ limit → Decides (is_ok (read_of h offset len)) (offset + len ≤ size)
read-decides h offset len size e l = go (ltb (offset + len + h.header) (2 ^ 64)) refl (leb (offset + len + h.header) (length h.live)) refl
  where
    go : (s : Bool) → ltb (offset + len + h.header) (2 ^ 64) ≡ s → (t : Bool) → leb (offset + len + h.header) (length h.live) ≡ t
        → Decides (is_ok {T = Unit {0}} (cond s (cond t (Ok tt) (Err InsufficientLength)) (Err ReadOverflow))) (offset + len ≤ size)
    go true p true q = ((λ _. let k = leb-true _ _ q in omega arith), λ _. refl)
    go true p false q = ((λ z. absurd (false≢true z)), λ z. absurd (let k = leb-false _ _ q in omega arith))
    go false p t q = ((λ z. absurd (false≢true z)), λ z. absurd (let k = ltb-false _ _ p in omega arith))

module _ (b : Bench) (snd : Sound b.under.store) (i : Counted b.under) (n : ℕ) (h : Handle) (f : File)
    (e : handle_at b.under.store.handles n ≡ Some h) (q : file_of b.under.store.volume h.generation ≡ Some f) where
  short : length h.live ≤ limit
  short = (all_found (λ (x : Handle). Sized x.header x.live) (numbered n) b.under.store.handles h e snd.handles.handles_sized).fits

  -- a read whose roll said no
  done-reads : (size offset start len : ℕ) (area : List ℕ) (k : ℕ) → size + h.header ≡ length h.live
      → (let wanted = stretch area start len in
      let r = read_of h offset (length wanted) in
      Reads h size offset start len area (within Told area start (below b (done r (when_ok r (read_bytes h offset (length wanted)) wanted) k b.under))))
  done-reads size offset start len area k c = record {
    gives = read-decides h offset (length (stretch area start len)) size c short;
    bytes = λ t. go (read_of h offset (length (stretch area start len))) t;
    stays = λ t. kept (read_of h offset (length (stretch area start len))) t;
  }
    where
      go : (r : Done) → is_ok r ≡ true
          → replaced area start (when_ok r (read_bytes h offset (length (stretch area start len))) (stretch area start len)) ≡ replaced area start (read_bytes h offset (length (stretch area start len)))
      go (Ok u) t = refl
      go (Err g) t = absurd (false≢true t)

      kept : (r : Done) → is_ok r ≡ false → replaced area start (when_ok r (read_bytes h offset (length (stretch area start len))) (stretch area start len)) ≡ area
      kept (Ok u) t = absurd (false≢true (sym t))
      kept (Err g) t = put_back area start len

  sizes-hold : SizesHold b n h
  sizes-hold =
      let s = i.sized n h e in
      record {
        size = s.0.size;
        told = λ area. rw (e, s.1);
        counts = s.2 f q;
        reads = λ offset start len area clean. go offset start len area s.0.size (s.2 f q) clean;
      }
    where
      go : (offset start len : ℕ) (area : List ℕ) (size : ℕ) → size + h.header ≡ length h.live
          → ((step b (Read n offset start len) area).answer ≡ Told (Err (Injected Op.Read)) → ⊥) → Reads h size offset start len area (step b (Read n offset start len) area)
      go offset start len area size c clean =
          let wanted = stretch area start len in
          let same = read_held b.under n offset wanted h e in
          let r = read_of h offset (length wanted) in
          let rate = rate_of b.under.rates.reads in
          subst (λ (o : Outcome Faulty Done). Reads h size offset start len area (within Told area start (below b o))) (sym same)
          (cond_both (rolled rate b.under.words) (struck Op.Read b.under wanted (roll_taken rate))
          (done r (when_ok r (read_bytes h offset (length wanted)) wanted) (roll_taken rate) b.under) (λ o. Reads h size offset start len area (within Told area start (below b o)))
          (λ hit. absurd (clean (ap (λ (o : Outcome Faulty Done). Told o.answer) (same ∙ cond-true (rolled rate b.under.words) _ _ hit))))
          (λ miss. done-reads size offset start len area (roll_taken rate) c))

pub size-promise : SizePromise
size-promise w area cs n h f e q =
    let g = subst (λ (b : Bench). Good b.under (ledger w area cs)) (watched-bench w area cs) (all-good w area cs) in
    sizes-hold (left w area cs) g.sound (all-counted w area cs) n h f e q
