-- Every call, and so every list of calls, leaves standing what its answers say.
use Rattle.std.proofs.Common.{◌≡◌, ℕ, Bool, true, false, cond, ◌&&◌, eqb, ◌⊎◌, List, [], ◌∷◌, ◌++◌, map, is_some, Some, None, Ok, Err, Option, Result, sym, refl, ap, ◌∙◌, subst, inl, inr, arith}
use Rattle.std.proofs.Math.Bool.{and-true}
use Rattle.std.specs.Result.{is_ok}
use Rattle.std.specs.Str.{bytes_eq}
use Rattle.std.proofs.lemmas.Bool.{cond-true, cond-false, cases_eq, eq-eqb, ne_eqb, leb-true, and_from, and_right, and_left}
use Rattle.fault.specs.Numbers.{number}
use Rattle.fault.specs.declared.Op.TheVariants as Op
use Rattle.fault.specs.declared.Fault.{Fault}
use Rattle.fault.specs.declared.Fault.TheVariants.{BadPartition, AlreadyOpen, Injected}
use Rattle.draw.specs.Words.{rolled, roll_taken}
use Rattle.name.specs.Names.{is_partition}
use Rattle.store.specs.declared.file.File.{File}
use Rattle.store.specs.declared.handle.Handle.{Handle}
use Rattle.store.specs.Meaning.{Disk, Done}
use Rattle.store.specs.Live.{handle_at}
use Rattle.store.specs.Durable.{file_at, file_stands, remove_fault, remove_partition_fault}
use Rattle.store.specs.Whole.{open_fault}
use Rattle.steps.specs.State.{Size as Kept, Faulty, Bench, Outcome, Rates, rate_of}
use Rattle.steps.specs.Faulty.{struck, done, open_step, close_step, remove_step, remove_partition_step, settle_step, configure_step}
use Rattle.steps.specs.Register.{leased, lifted}
use Rattle.steps.specs.Calls.{Call, Open, Remove, Scan, Read, Write, Resize, Size, Sync, StartSync, Settle, Close, Configure, Look, Crash, Restart, Reply, Opened, stretch, step, run_from}
use Rattle.reached.specs.Sound.{Sound}
use Rattle.reached.proofs.Runs.{open-sound}
use Rattle.laws.specs.Ledger.{early_fault}
use Rattle.laws.specs.Promises.{Watched, watch, watched, begun, ledger, left}
use Rattle.laws.specs.Standing.{stands_after, held_after, stands_by, held_by, StandingPromise}
use Rattle.laws.proofs.Good.{Good, Quiet, scan-quiet, read-quiet, size-quiet, look-quiet, Early}
use Rattle.laws.proofs.Opens.{opened_ok, accepted, told, opened-ok, open-refused, open-struck, open-bad, open-ok, open-early}
use Rattle.laws.proofs.Walks.{after-turned, after-rolling}
use Rattle.laws.proofs.Promise.{GoodNow, watch-good, all-good, watched-bench}
use Rattle.laws.proofs.Stays.{Names, names_same, replayed-names, write-names, resize-names, sync-names, start-names}
use Rattle.laws.proofs.Named.{remove-stands, remove-partition-stands, close-held, close-stands, opened-stands, opened-held, none-next, given}

pub record Follows (b : Bench) (c : Call) (o : Outcome Bench Reply) : Type 0 where
  pub files : (p n : List ℕ) → file_stands o.next.under.store.volume p n ≡ stands_after c o.answer p n (file_stands b.under.store.volume p n)
  pub handles : (h : ℕ) → is_some (handle_at o.next.under.store.handles h) ≡ held_after c o.answer h (is_some (handle_at b.under.store.handles h))

quiet-names : {A : Type 0} (b : Faulty) (o : Outcome Faulty A) → Quiet b o → Names b.store o.next.store
quiet-names b o q = rw q.store (names_same b.store)

-- a refusal has no number 13
early-13 : (g : Fault) → early_fault g ≡ true → eqb (number g) 13 ≡ false
early-13 g e = let l = leb-true (number g) 8 e in ne_eqb (number g) 13 (λ s. (let z : number g ≡ 13 = s in omega arith))

close-ok : (b : Faulty) (h : ℕ) (x : Handle) → handle_at b.store.handles h ≡ Some x → (close_step b h).answer ≡ Ok tt
close-ok b h x e = rw e

module _ (b : Bench) (snd : Sound b.under.store) (q n header : List ℕ) where
  abbrev P : Outcome Bench Reply → Type 0
  P o = Follows b (Open q n header) o

  -- an open that found nothing and gave nothing
  unopened : (area : List ℕ) (o : Outcome Faulty (Result (ℕ × ℕ) Fault)) (g : Fault) → o.answer ≡ Err g → eqb (number g) 13 ≡ false → o.next.store ≡ b.under.store
      → P (record { answer = Opened (Err g); area = area; taken = o.taken; next = record { under = o.next; leases = b.leases } })
  unopened area o g a k s = record {
    files = λ p m. rw s (sym (cond-false ((bytes_eq q p && bytes_eq n m) && eqb (number g) 13) true _ (and_right (bytes_eq q p && bytes_eq n m) (eqb (number g) 13) k)));
    handles = λ h. rw s refl;
  }

  module _ (f : open_fault b.under.store q n header ≡ None) (v : is_partition q ≡ true) where
    opened-sound : Sound (opened_ok b.under.store q n header)
    opened-sound = rw (opened-ok b.under.store q n header f v) at (open-sound b.under.store q n header snd)

    found-files : (p m : List ℕ) → file_stands (opened_ok b.under.store q n header).volume p m ≡ cond ((bytes_eq q p && bytes_eq n m) && true) true (file_stands b.under.store.volume p m)
    found-files p m =
        opened-stands b.under.store snd q n header p m ∙ ap (λ (t : Bool). cond t true (file_stands b.under.store.volume p m)) (sym (and-true (bytes_eq q p && bytes_eq n m)))

    -- the register closed the new handle again
    closed-again : (h : ℕ) → is_some (handle_at (close_step (accepted b.under q n header).next b.under.store.issued).next.store.handles h) ≡ is_some (handle_at b.under.store.handles h)
    closed-again h =
        let g = given b.under.store snd q n header in
        close-held (accepted b.under q n header).next opened-sound b.under.store.issued h
        ∙ go (cases_eq b.under.store.issued h) (close_step (accepted b.under q n header).next b.under.store.issued).answer
        (close-ok (accepted b.under q n header).next b.under.store.issued g.1.0 g.1.1.handle)
      where
        go : (b.under.store.issued ≡ h) ⊎ (b.under.store.issued ≡ h → ⊥) → (a : Done) → a ≡ Ok tt
            → cond (eqb b.under.store.issued h && is_ok a) false (is_some (handle_at (opened_ok b.under.store q n header).handles h)) ≡ is_some (handle_at b.under.store.handles h)
        go (inl e) a k =
            cond-true (eqb b.under.store.issued h && is_ok a) false _ (and_from (eqb b.under.store.issued h) (is_ok a) (eq-eqb b.under.store.issued h e) (ap is_ok k))
            ∙ sym (ap is_some (none-next b.under.store snd q n header h e))
        go (inr d) a k =
            cond-false (eqb b.under.store.issued h && is_ok a) false _ (and_left (eqb b.under.store.issued h) (is_ok a) (ne_eqb b.under.store.issued h d))
            ∙ opened-held b.under.store snd q n header h ∙ cond-false (eqb b.under.store.issued h) true _ (ne_eqb b.under.store.issued h d)

    -- leased already, or leased to the new handle
    accepted-follows : P (told b q n (accepted b.under q n header))
    accepted-follows = go (leased b.leases q n)
      where
        go : (t : Bool) → P
            (let o = accepted b.under q n header in
            let k = cond t
            (record { answer = Err AlreadyOpen; area = o.area; taken = o.taken; next = record { under = (close_step o.next b.under.store.issued).next; leases = b.leases } })
            (lifted o (b.leases ++ (record { partition = q; name = n; handle = b.under.store.issued } ∷ []))) in
            record { answer = Opened k.answer; area = k.area; taken = k.taken; next = k.next })
        go false = record { files = found-files; handles = opened-held b.under.store snd q n header }
        go true = record {
          files = λ p m. close-stands (accepted b.under q n header).next opened-sound b.under.store.issued p m ∙ found-files p m;
          handles = closed-again;
        }

  -- every open, and where it gives a handle the file that it is of
  open-follows : P (told b q n (open_step b.under q n header))
  open-follows = go (open_fault b.under.store q n header) refl (open-early b.under.store q n header)
    where
      r : ℕ
      r = rate_of b.under.rates.opens

      below : (o : Outcome Faulty (Result (ℕ × ℕ) Fault)) → open_step b.under q n header ≡ o → P (told b q n o) → P (told b q n (open_step b.under q n header))
      below o e h = subst (λ x. P (told b q n x)) (sym e) h

      rolls : open_fault b.under.store q n header ≡ None → (t : Bool) → rolled r b.under.words ≡ t → P (told b q n (open_step b.under q n header))
      rolls f true hit =
          below (struck Op.Open b.under [] (roll_taken r)) (open-struck b.under q n header f hit)
          (unopened [] (struck Op.Open b.under [] (roll_taken r)) (Injected Op.Open) refl refl refl)
      rolls f false miss = named (is_partition q) refl
        where
          named : (t : Bool) → is_partition q ≡ t → P (told b q n (open_step b.under q n header))
          named true v = below (accepted b.under q n header) (open-ok b.under q n header f miss v) (accepted-follows f v)
          named false v =
              below (done (Err BadPartition) [] (roll_taken r) b.under) (open-bad b.under q n header f miss v)
              (unopened [] (done (Err BadPartition) [] (roll_taken r) b.under) BadPartition refl refl refl)

      go : (o : Option Fault) → open_fault b.under.store q n header ≡ o → Early o → P (told b q n (open_step b.under q n header))
      go (Some g) f a =
          below (record { answer = Err g; area = []; taken = 0; next = b.under }) (open-refused b.under q n header g f)
          (unopened [] (record { answer = Err g; area = []; taken = 0; next = b.under }) g refl (early-13 g a) refl)
      go None f a = rolls f (rolled r b.under.words) refl

-- Every call.
module _ (b : Bench) (snd : Sound b.under.store) (area : List ℕ) where
  abbrev same-handles : Faulty → Disk → List Kept → Type 0
  same-handles c m ss = m.handles ≡ c.store.handles

  remove-handles : (p n : List ℕ) → (remove_step b.under p n).next.store.handles ≡ b.under.store.handles
  remove-handles p n =
      after-turned (same-handles b.under) (remove_fault p n) b.under [] _ refl (after-rolling (same-handles b.under) (rate_of b.under.rates.removes) Op.Remove b.under [] _ refl refl)

  remove-partition-handles : (p : List ℕ) → (remove_partition_step b.under p).next.store.handles ≡ b.under.store.handles
  remove-partition-handles p =
      after-turned (same-handles b.under) (remove_partition_fault p) b.under [] _ refl (after-rolling (same-handles b.under) (rate_of b.under.rates.removes) Op.Remove b.under [] _ refl refl)

  same_store : (m : Disk) → m ≡ b.under.store → Names b.under.store m
  same_store m e = rw e (names_same b.under.store)

  settle-store : (t : ℕ) → (settle_step b.under t).next.store ≡ b.under.store
  settle-store t = grind arith

  configure-store : (r : Rates) → (configure_step b.under r).next.store ≡ b.under.store
  configure-store r = grind arith

  call-follows : (c : Call) → Follows b c (step b c area)
  call-follows (Open p n header) = let f = open-follows b snd p n header in record { files = f.files; handles = f.handles }
  call-follows (Remove p None) = record { files = λ q m. remove-partition-stands b.under snd p q m; handles = λ h. ap (λ (hs : List Handle). is_some (handle_at hs h)) (remove-partition-handles p) }
  call-follows (Remove p (Some n)) = record { files = λ q m. remove-stands b.under snd p n q m; handles = λ h. ap (λ (hs : List Handle). is_some (handle_at hs h)) (remove-handles p n) }
  call-follows (Scan p start len) = let n = quiet-names b.under _ (scan-quiet b.under p (stretch area start len)) in record { files = n.files; handles = n.handles }
  call-follows (Read h offset start len) = let n = quiet-names b.under _ (read-quiet b.under h offset (stretch area start len)) in record { files = n.files; handles = n.handles }
  call-follows (Write h offset bs sync) = let n = write-names b.under h offset bs sync in record { files = n.files; handles = n.handles }
  call-follows (Resize h len) = let n = resize-names b.under h len in record { files = n.files; handles = n.handles }
  call-follows (Size h) = let n = quiet-names b.under _ (size-quiet b.under h) in record { files = n.files; handles = n.handles }
  call-follows (Sync h) = let n = sync-names b.under h in record { files = n.files; handles = n.handles }
  call-follows (StartSync h) = let n = start-names b.under h in record { files = n.files; handles = n.handles }
  call-follows (Settle t) = let n = same_store _ (settle-store t) in record { files = n.files; handles = n.handles }
  call-follows (Close h) = record { files = λ p n. close-stands b.under snd h p n; handles = λ k. close-held b.under snd h k }
  call-follows (Configure r) = let n = same_store _ (configure-store r) in record { files = n.files; handles = n.handles }
  call-follows (Look p n start len) = let m = quiet-names b.under _ (look-quiet b.under p n (stretch area start len)) in record { files = m.files; handles = m.handles }
  call-follows Crash = record { files = λ p n. replayed-names b.under.log b.under.store.volume b.under.words p n; handles = λ h. refl }
  call-follows Restart = record { files = λ p n. refl; handles = λ h. refl }

-- Every list of calls.
module _ where
  files-by : (cs : List Call) (s : Watched) → GoodNow s → (p n : List ℕ)
      → file_stands (watched s cs).bench.under.store.volume p n
      ≡ stands_by cs (map (λ t. t.reply) (run_from s.bench s.area cs).answer) p n (file_stands s.bench.under.store.volume p n)
  files-by [] s g p n = refl
  files-by (c ∷ cs) s g p n =
      files-by cs (watch s c) (watch-good s c g) p n
      ∙ ap (stands_by cs (map (λ t. t.reply) (run_from (step s.bench c s.area).next (step s.bench c s.area).area cs).answer) p n) ((call-follows s.bench g.sound s.area c).files p n)

  handles-by : (cs : List Call) (s : Watched) → GoodNow s → (h : ℕ)
      → is_some (handle_at (watched s cs).bench.under.store.handles h)
      ≡ held_by cs (map (λ t. t.reply) (run_from s.bench s.area cs).answer) h (is_some (handle_at s.bench.under.store.handles h))
  handles-by [] s g h = refl
  handles-by (c ∷ cs) s g h =
      handles-by cs (watch s c) (watch-good s c g) h
      ∙ ap (held_by cs (map (λ t. t.reply) (run_from (step s.bench c s.area).next (step s.bench c s.area).area cs).answer) h) ((call-follows s.bench g.sound s.area c).handles h)

-- An open that gives a handle gives one of the file that it names.
module _ (b : Bench) (snd : Sound b.under.store) (q n header : List ℕ) where
  abbrev Gives : Outcome Bench Reply → Type 0
  Gives o = (a : ℕ × ℕ) → o.answer ≡ Opened (Ok a)
      → (f : File) × (x : Handle) × (file_at o.next.under.store.volume q n ≡ Some f) × (handle_at o.next.under.store.handles a.0 ≡ Some x)
      × (x.generation ≡ f.generation) × (x.header ≡ f.header) × (x.live ≡ f.durable)

  never : (o : Outcome Bench Reply) (g : Fault) → o.answer ≡ Opened (Err g) → Gives o
  never o g e a k = cc

  accepted-gives : Gives (told b q n (accepted b.under q n header))
  accepted-gives = go (leased b.leases q n)
    where
      numbered : (a c : ℕ × ℕ) → Opened (Ok a) ≡ Opened (Ok c) → c.0 ≡ a.0
      numbered a c e = let s : a ≡ c = cc in ap (λ (x : ℕ × ℕ). x.0) (sym s)

      go : (t : Bool) → Gives
          (let o = accepted b.under q n header in
          let k = cond t
          (record { answer = Err AlreadyOpen; area = o.area; taken = o.taken; next = record { under = (close_step o.next b.under.store.issued).next; leases = b.leases } })
          (lifted o (b.leases ++ (record { partition = q; name = n; handle = b.under.store.issued } ∷ []))) in
          record { answer = Opened k.answer; area = k.area; taken = k.taken; next = k.next })
      go true a e = cc
      go false a e =
          let g = given b.under.store snd q n header in
          let k = g.1.1 in
          let s : a.0 ≡ b.under.store.issued = numbered _ a e in
          (g.0, g.1.0, k.file, ap (handle_at (opened_ok b.under.store q n header).handles) s ∙ k.handle, k.generation, k.header-length, k.copied)

  open_gives : Gives (told b q n (open_step b.under q n header))
  open_gives = go (open_fault b.under.store q n header) refl
    where
      r : ℕ
      r = rate_of b.under.rates.opens

      below : (o : Outcome Faulty (Result (ℕ × ℕ) Fault)) → open_step b.under q n header ≡ o → Gives (told b q n o) → Gives (told b q n (open_step b.under q n header))
      below o e h = subst (λ x. Gives (told b q n x)) (sym e) h

      rolls : open_fault b.under.store q n header ≡ None → (t : Bool) → rolled r b.under.words ≡ t → Gives (told b q n (open_step b.under q n header))
      rolls f true hit = below (struck Op.Open b.under [] (roll_taken r)) (open-struck b.under q n header f hit) (never (told b q n (struck Op.Open b.under [] (roll_taken r))) (Injected Op.Open) refl)
      rolls f false miss = named (is_partition q) refl
        where
          named : (t : Bool) → is_partition q ≡ t → Gives (told b q n (open_step b.under q n header))
          named true v = below (accepted b.under q n header) (open-ok b.under q n header f miss v) accepted-gives
          named false v = below (done (Err BadPartition) [] (roll_taken r) b.under) (open-bad b.under q n header f miss v) (never (told b q n (done (Err BadPartition) [] (roll_taken r) b.under)) BadPartition refl)

      go : (o : Option Fault) → open_fault b.under.store q n header ≡ o → Gives (told b q n (open_step b.under q n header))
      go (Some g) f = below (record { answer = Err g; area = []; taken = 0; next = b.under }) (open-refused b.under q n header g f) (never (told b q n (record { answer = Err g; area = []; taken = 0; next = b.under })) g refl)
      go None f = rolls f (rolled r b.under.words) refl

pub standing-promise : StandingPromise
standing-promise w area cs =
    let same = watched-bench w area cs in
    let g = subst (λ (b : Bench). Good b.under (ledger w area cs)) same (all-good w area cs) in
    record {
      files = λ p n. ap (λ (b : Bench). file_stands b.under.store.volume p n) (sym same) ∙ files-by cs (begun w area) (all-good w area []) p n;
      handles = λ h. ap (λ (b : Bench). is_some (handle_at b.under.store.handles h)) (sym same) ∙ handles-by cs (begun w area) (all-good w area []) h;
      opens = λ p n header rest a e. open_gives (left w area cs) g.sound p n header a e;
    }
