-- A write keeps bench and ledger together.
use Rattle.std.proofs.Common.{◌≡◌, ℕ, ◌+◌, ◌^◌, ◌≤◌, Bool, true, false, cond, not, ◌&&◌, eqb, ltb, leb, ◌⊎◌, List, [], ◌∷◌, length, Some, None, Ok, Err, Option, sym, refl, ap, ◌∙◌, inl, inr, arith, map}
use Rattle.std.proofs.lemmas.List.{length-map}
use mathlib.Core.Path.{fun_ext}
use Rattle.std.specs.Option.{option_map}
use Rattle.std.proofs.lemmas.Bool.{cond_both, le-leb, false≢true}
use Rattle.std.proofs.lemmas.Bool.Decides.{nat_tests}
use Rattle.fault.specs.declared.Op.TheVariants as Op
use Rattle.fault.specs.declared.Fault.{Fault}
use Rattle.fault.specs.declared.Fault.TheVariants.{NoHandle, TooLong, NoSpace, WriteOverflow, LogFull, BlobMissing, Injected}
use Rattle.draw.specs.Words.{Words, after, rolled, roll_taken}
use Rattle.draw.specs.Selections.{selected, select_taken}
use Rattle.draw.specs.Sources.{tape_words}
use Rattle.content.specs.Bytes.{limit, written}
use Rattle.content.specs.Patches.{Patch, patch}
use Rattle.content.proofs.Lays.{length_patch}
use Rattle.std.specs.List.{find}
use Rattle.store.proofs.Finds.{amended-none}
use Rattle.store.specs.declared.file.File.{File}
use Rattle.store.specs.declared.handle.Handle.{Handle}
use Rattle.store.specs.Meaning.{Disk, Done, with_durable, with_volume, when_some, refused}
use Rattle.store.specs.Live.{handle_at, held_fault, write_fault, write_limit}
use Rattle.store.specs.Durable.{generated, file_of, durable_written}
use Rattle.store.specs.Whole.{written_live}
use Rattle.store.proofs.Faults.{write-fits}
use Rattle.steps.specs.Log.{Entry, Wrote, recorded, idle, fixed}
use Rattle.steps.specs.State.{Faulty, Outcome, WriteRates, rate_of, write_failure, retention, least, changed}
use Rattle.steps.specs.Faulty.{struck, done, grown, is_empty, overflow, full_fault, write_refusal, log_for, runs, Ran, ran, failing_write, recording, writing, good_write, write_step}
use Rattle.steps.specs.Calls.{Write, Told}
use Rattle.reached.specs.Sound.{Sound}
use Rattle.reached.proofs.Steps.{write-sound}
use Rattle.laws.specs.Pages.{Page, held, reach, fix_range, put_range}
use Rattle.laws.specs.Ledger.{Ledger, early, known, followed, puts, write_pages, of_handle, turned as turned_page}
use Rattle.laws.specs.Promises.{taken}
use Rattle.laws.proofs.Places.{Over, none-some, written_over}
use Rattle.laws.proofs.Files.{changed-same, changed-other}
use Rattle.laws.proofs.Keeps.{Kept, kept_same, kept_put, kept-fix}
use Rattle.laws.proofs.Draws.{upto-first, upto_rest, rolled-upto, selected-upto, tape-upto}
use Rattle.laws.proofs.Runs.{sync-wrote, plain-wrote, runs-landed, runs-lost, runs-idle, runs-reach, ran-sound, ran-generations}
use Rattle.laws.proofs.Good.{note_of, KeptIn, Good, good-as, Goes, goes-as, cond_same, Early, early-least, early-cond, least-none, turned-good, unchanged, drawn, held-handle}
use Rattle.laws.proofs.Syncs.{held-early}

-- a page without a change
turned_none : (g : ℕ) (a : Page → Page) (pages : ℕ → Page) → ((page : Page) → a page ≡ page) → turned_page g a pages ≡ pages
turned_none g a pages h = fun_ext (λ k. ap (λ (q : Page). cond (eqb k g) q (pages k)) (h (pages k)) ∙ cond_same (eqb k g) (pages k))

write-early : (hs : List Handle) (h offset len : ℕ) → Early (write_fault hs h offset len)
write-early hs h offset len = go (handle_at hs h)
  where
    go : (o : Option Handle) → Early (when_some o (λ x. cond (ltb write_limit len) (Some TooLong) (cond (leb (offset + len + x.header) limit) None (Some NoSpace))) (Some NoHandle))
    go None = refl
    go (Some x) = early-cond (ltb write_limit len) (Some TooLong) _ refl (early-cond (leb (offset + len + x.header) limit) None (Some NoSpace) tt refl)

refusal-early : (b : Faulty) (h offset : ℕ) (bs : List ℕ) → Early (write_refusal b h offset bs)
refusal-early b h offset bs =
    early-least (write_fault b.store.handles h offset (length bs)) _ (write-early b.store.handles h offset (length bs))
    (early-least (overflow offset (length bs)) _ (early-cond (ltb (offset + length bs) (2 ^ 64)) None (Some WriteOverflow) tt refl) (early-cond _ (Some LogFull) None refl tt))

-- a write that meets no fault has a handle, and is short
pub record Writable (hs : List Handle) (h offset len : ℕ) : Type 0 where
  pub handle : Handle
  pub found : handle_at hs h ≡ Some handle
  pub short : len ≤ write_limit
  pub fits : offset + len + handle.header ≤ limit

pub writable : (hs : List Handle) (h offset len : ℕ) → write_fault hs h offset len ≡ None → Writable hs h offset len
writable hs h offset len f = go (handle_at hs h) refl f
  where
    short : (end : ℕ) → cond (ltb write_limit len) (Some TooLong) (cond (leb end limit) None (Some NoSpace)) ≡ None → len ≤ write_limit
    short end e = grind (arith, nat_tests)

    go : (o : Option Handle) → handle_at hs h ≡ o
        → when_some o (λ x. cond (ltb write_limit len) (Some TooLong) (cond (leb (offset + len + x.header) limit) None (Some NoSpace))) (Some NoHandle) ≡ None → Writable hs h offset len
    go None q e = cc
    go (Some x) q e = record { handle = x; found = q; short = short (offset + len + x.header) e; fits = write-fits hs h offset len x q f }

-- what a write does once nothing refuses it
abbrev going : Faulty → ℕ → ℕ → List ℕ → Bool → Outcome Faulty Done
going b h offset bs sync =
    let rate = write_failure b.rates in
    cond (rolled rate b.words)
    (when_some (retention b.rates) (λ w. failing_write b w h offset bs (roll_taken rate)) (struck Op.Write b [] (roll_taken rate)))
    (good_write b h offset bs sync (roll_taken rate))

going_on : (b : Faulty) (h offset : ℕ) (bs : List ℕ) (sync : Bool) → (sync && is_empty bs) ≡ false → write_fault b.store.handles h offset (length bs) ≡ None
    → overflow offset (length bs) ≡ None → full_fault b.log (not (is_empty bs)) ≡ None → write_step b h offset bs sync ≡ going b h offset bs sync
going_on b h offset bs sync s f o g = rw (s, f, o, g)

-- a write of the store: plain, SYNC to a standing file, SYNC to a missing one
abbrev plainly : Faulty → ℕ → ℕ → List ℕ → List Entry → Done → ℕ → Outcome Faulty Done
plainly b h offset bs es ok n = done ok [] n (changed b (written_live b.store h offset bs) es (grown b.sizes h (offset + length bs)))

abbrev synced_to : Faulty → Handle → ℕ → ℕ → List ℕ → Disk
synced_to b x h offset bs = with_volume (written_live b.store h offset bs) (durable_written b.store.volume x.generation (x.header + offset) bs)

abbrev synchronously : Faulty → Handle → ℕ → ℕ → List ℕ → List Entry → Done → ℕ → Outcome Faulty Done
synchronously b x h offset bs es ok n = done ok [] n (changed b (synced_to b x h offset bs) es (grown b.sizes h (offset + length bs)))

abbrev missingly : Faulty → Handle → ℕ → ℕ → List ℕ → ℕ → Outcome Faulty Done
missingly b x h offset bs n = done (Err BlobMissing) [] n (changed b (synced_to b x h offset bs) b.log b.sizes)

module _ (b : Faulty) (h offset : ℕ) (bs : List ℕ) (x : Handle) (e : handle_at b.store.handles h ≡ Some x) (f : write_fault b.store.handles h offset (length bs) ≡ None)
    (es : List Entry) (ok : Done) (n : ℕ) where
  writing-plain : writing b h offset bs false es ok n ≡ plainly b h offset bs es ok n
  writing-plain = rw f

  writing-sync : (y : File) → file_of b.store.volume x.generation ≡ Some y → writing b h offset bs true es ok n ≡ synchronously b x h offset bs es ok n
  writing-sync y q = rw (f, e, q)

  writing-missing : file_of b.store.volume x.generation ≡ None → writing b h offset bs true es ok n ≡ missingly b x h offset bs n
  writing-missing q = rw (f, e, q)

module _ (b : Faulty) (pages : ℕ → Page) (snd : Sound b.store) (kp : KeptIn b pages) (h offset : ℕ) (bs : List ℕ) (x : Handle)
    (e : handle_at b.store.handles h ≡ Some x) (f : write_fault b.store.handles h offset (length bs) ≡ None) where
  abbrev N : Ledger
  N = note_of b pages

  live-sound : Sound (written_live b.store h offset bs)
  live-sound = rw (plain-wrote b.store h offset bs x e f) at (write-sound b.store h offset bs false snd)

  synced-sound : Sound (synced_to b x h offset bs)
  synced-sound = rw (sync-wrote b.store h offset bs x e f) at (write-sound b.store h offset bs true snd)

  -- the range ends within the limit
  ends : (os : Patch) → length os ≡ length bs → leb (x.header + offset + length os) limit ≡ true
  ends os s = let l = write-fits b.store.handles h offset (length bs) x e f in le-leb (x.header + offset + length os) limit (omega arith)

  -- a write that may be recorded
  recording-kept : Kept b.store.volume b.store.generations (recording b h offset bs) (puts N h offset bs)
  recording-kept = go (retention b.rates)
    where
      put : (w : WriteRates) (cs : List ℕ) → length cs ≡ length bs
          → Kept b.store.volume b.store.generations (cond (is_empty cs) b.log (recorded b.log (Wrote x.generation offset (map Some cs) w.mode w.retention)))
          (turned_page x.generation (put_range (x.header + offset) (map Some cs)) pages)
      put w [] s = rw (turned_none x.generation (put_range (x.header + offset) []) pages (λ page. refl)) kp
      put w (c ∷ cs) s =
          let held = held-handle b pages snd kp h x e in
          kept_put x.generation x.header held.issued kp held.header offset (map Some (c ∷ cs)) w.mode w.retention (ends (map Some (c ∷ cs)) (length-map (c ∷ cs) Some ∙ s))

      go : (o : Option WriteRates)
          → Kept b.store.volume b.store.generations
          (when_some o (λ w. cond (is_empty bs) b.log (log_for b h (λ g. recorded b.log (Wrote g offset (map Some bs) w.mode w.retention)))) b.log)
          (when_some o (λ _. of_handle N h (λ y. put_range (y.header + offset) (map Some bs))) pages)
      go None = kp
      go (Some w) = rw e (put w bs refl)

  plain-good : (ok : Done) (n : ℕ) → Good (plainly b h offset bs (recording b h offset bs) ok n).next (note_of (plainly b h offset bs (recording b h offset bs) ok n).next (puts N h offset bs))
  plain-good ok n = record { agree = refl; sound = live-sound; kept = recording-kept }

  -- a SYNC write to a standing file fixes its bytes
  fixed-good : is_empty bs ≡ false → (n : ℕ)
      → (let o = synchronously b x h offset bs (fixed b.log x.generation offset (map Some bs)) (Ok tt) n in
      Good o.next (note_of o.next (turned_page x.generation (fix_range (x.header + offset) (map Some bs)) pages)))
  fixed-good full n =
      let held = held-handle b pages snd kp h x e in
      let v = b.store.volume in
      let a : File → List ℕ = λ z. written z.durable (x.header + offset) bs in
      record {
        agree = refl;
        sound = synced-sound;
        kept = kept-fix x.generation x.header held.issued kp held.header (durable_written v x.generation (x.header + offset) bs) offset (map Some bs) (ends (map Some bs) (length-map bs Some))
            (λ k m. changed-other v x.generation k a m)
            (λ z r. (a z, changed-same v x.generation a ∙ ap (option_map (λ (w : File). with_durable w (a w))) r, λ p. written_over z.durable (x.header + offset) bs p))
            (λ r. changed-same v x.generation a ∙ ap (option_map (λ (w : File). with_durable w (a w))) r)
            (λ i. absurd (busy bs full i));
      }
    where
      busy : (cs : List ℕ) → is_empty cs ≡ false → idle (map Some cs) ≡ true → ⊥
      busy [] a i = false≢true (sym a)
      busy (c ∷ cs) a i = false≢true i

  -- a SYNC write to a missing file changes no file
  missing-good : file_of b.store.volume x.generation ≡ None → (n : ℕ) → (let o = missingly b x h offset bs n in Good o.next (note_of o.next pages))
  missing-good q n = record {
    agree = refl;
    sound = synced-sound;
    kept = kept_same (λ k. ap (find (generated k)) (amended-none (generated x.generation) (λ z. with_durable z (written z.durable (x.header + offset) bs)) b.store.volume.files q)) (λ k d. refl) kp;
  }

  -- what the ledger makes of a write, given the words u that it is fed
  write-ledger : (sync : Bool) (u : Words) (a : Done) (o : Outcome Faulty Done) (qs : ℕ → Page) → early (Told a) ≡ false → write_step (known N u) h offset bs sync ≡ o
      → write_pages N h offset bs sync (Told a) u ≡ qs
      → cond (early (Told a)) N (followed (write_step (known N u) h offset bs sync) (write_pages N h offset bs sync (Told a) u)) ≡ followed o qs
  write-ledger sync u a o qs late step pg = rw (late, step, pg)

  abbrev rate : ℕ
  rate = write_failure b.rates

  abbrev first : ℕ
  first = roll_taken rate

  module _ (sync : Bool) (s : (sync && is_empty bs) ≡ false) (ov : overflow offset (length bs) ≡ None) where
    taped : (u : Words) → write_step (known N u) h offset bs sync ≡ going (known N u) h offset bs sync
    taped u = going_on (known N u) h offset bs sync s f ov refl

    abbrev P : Outcome Faulty Done → Type 0
    P = Goes b pages (Write h offset bs sync) Told

    -- the failure roll said yes, and retention is not set
    struck-good : retention b.rates ≡ None → rolled rate b.words ≡ true → P (struck Op.Write b [] first)
    struck-good q hit =
        let u = tape_words (taken first b.words) in
        let one : rolled rate u ≡ true = rolled-upto rate b.words u (tape-upto first b.words) ∙ hit in
        good-as (drawn b pages snd kp (after first b.words))
        (write-ledger sync u (Err (Injected Op.Write)) (struck Op.Write (known N u) [] first) pages refl (taped u ∙ rw (one, q))
        (rw (q, e) (turned_none x.generation (fix_range (x.header + offset) []) pages (λ page. refl))))

    -- the failure roll said yes, and retention is set: the selected runs become durable, and are fixed
    module _ (w : WriteRates) (q : retention b.rates ≡ Some w) (hit : rolled rate b.words ≡ true) where
      abbrev count : ℕ
      count = select_taken w.mode w.retention (length bs) (after first b.words)

      abbrev chosen : Words → Patch
      chosen v = patch bs (selected w.mode w.retention (length bs) (after first v))

      abbrev end : Ran
      end = ran (runs offset (chosen b.words)) h b.store b.sizes

      abbrev u : Words
      u = tape_words (taken (first + count) b.words)

      -- what failing_write comes to, by the fault that stopped it
      abbrev failed : Option Fault → Outcome Faulty Done
      failed o =
          done (when_some o Err (Err (Injected Op.Write))) [] (first + count)
          (changed b end.store (when_some o (λ _. b.log) (fixed b.log x.generation offset (chosen b.words))) end.sizes)

      failed-is : (o : Option Fault) → end.fault ≡ o → failing_write b w h offset bs first ≡ failed o
      failed-is o k = rw (k, e)

      same_chosen : chosen u ≡ chosen b.words
      same_chosen =
          ap (patch bs) (selected-upto w.mode w.retention (length bs) (after first b.words) (after first u)
          (upto_rest first count b.words u (tape-upto (first + count) b.words)))

      taped-fails : write_step (known N u) h offset bs sync ≡ failing_write (known N u) w h offset bs first
      taped-fails =
          let one : rolled rate u ≡ true = rolled-upto rate b.words u (upto-first first count b.words u (tape-upto (first + count) b.words)) ∙ hit in
          taped u ∙ rw (one, q)

      -- the ledger's store and sizes are those that the runs leave
      followed-fails : (qs : ℕ → Page) → followed (failing_write (known N u) w h offset bs first) qs ≡ record { rates = b.rates; sizes = end.sizes; store = end.store; pages = qs }
      followed-fails qs = rw same_chosen

      fails-ledger : (a : Done) (qs : ℕ → Page) → early (Told a) ≡ false → write_pages N h offset bs sync (Told a) u ≡ qs
          → cond (early (Told a)) N (followed (write_step (known N u) h offset bs sync) (write_pages N h offset bs sync (Told a) u))
          ≡ record { rates = b.rates; sizes = end.sizes; store = end.store; pages = qs }
      fails-ledger a qs late pg = write-ledger sync u a (failing_write (known N u) w h offset bs first) qs late taped-fails pg ∙ followed-fails qs

      fixed-pages : write_pages N h offset bs sync (Told (Err (Injected Op.Write))) u ≡ turned_page x.generation (fix_range (x.header + offset) (chosen b.words)) pages
      fixed-pages = rw (q, e, same_chosen)

      long : length (chosen b.words) ≡ length bs
      long = length_patch bs (selected w.mode w.retention (length bs) (after first b.words))

      short : length (chosen b.words) ≤ write_limit
      short = omega (arith, long, (writable b.store.handles h offset (length bs) f).short)

      room : offset + length (chosen b.words) + x.header ≤ limit
      room = omega (arith, long, write-fits b.store.handles h offset (length bs) x e f)

      end-sound : Sound end.store
      end-sound = ran-sound (runs offset (chosen b.words)) h b.store b.sizes snd

      -- no run met a fault
      whole-good : end.fault ≡ None
          → ((k : ℕ) → (x.generation ≡ k → ⊥) → file_of end.store.volume k ≡ file_of b.store.volume k)
          → ((z : File) → file_of b.store.volume x.generation ≡ Some z
          → (ys : List ℕ) × (file_of end.store.volume x.generation ≡ Some (with_durable z ys)) × ((p : ℕ) → Over (reach (x.header + offset) (chosen b.words) p) (held z.durable p) (held ys p)))
          → (file_of b.store.volume x.generation ≡ None → file_of end.store.volume x.generation ≡ None)
          → P (failing_write b w h offset bs first)
      whole-good fine others here gone =
          let hd = held-handle b pages snd kp h x e in
          let gens = ran-generations (runs offset (chosen b.words)) h b.store b.sizes in
          let kept = kept-fix x.generation x.header hd.issued kp hd.header end.store.volume offset (chosen b.words) (ends (chosen b.words) long) others here gone
          (λ i k. ap (λ (r : Ran). file_of r.store.volume k) (runs-idle h b.store b.sizes x e offset (chosen b.words) short room i)) in
          goes-as b pages (Write h offset bs sync) Told (failed-is None fine)
          (good-as (record { agree = refl; sound = end-sound; kept = rw gens kept }) (fails-ledger (Err (Injected Op.Write)) _ refl fixed-pages))

      -- the file is missing
      lost-good : end.fault ≡ Some BlobMissing → ((k : ℕ) → file_of end.store.volume k ≡ file_of b.store.volume k) → P (failing_write b w h offset bs first)
      lost-good met others =
          let gens = ran-generations (runs offset (chosen b.words)) h b.store b.sizes in
          goes-as b pages (Write h offset bs sync) Told (failed-is (Some BlobMissing) met)
          (good-as (record { agree = refl; sound = end-sound; kept = rw gens (kept_same others (λ k d. refl) kp) }) (fails-ledger (Err BlobMissing) pages refl refl))

      failing-good : P (failing_write b w h offset bs first)
      failing-good = go (file_of b.store.volume x.generation) refl
        where
          go : (o : Option File) → file_of b.store.volume x.generation ≡ o → P (failing_write b w h offset bs first)
          go (Some y) k =
              let l = runs-landed h b.store b.sizes x e offset (chosen b.words) short room in
              whole-good (l y k).whole (l y k).others
              (λ z r. ((l z r).bytes, (l z r).here, λ p. rw (runs-reach x.header p offset (chosen b.words)) at ((l z r).over p)))
              (λ r. absurd (none-some r k))
          go None k =
              let l = runs-lost h b.store b.sizes x e offset (chosen b.words) short room k in
              two l.fault
            where
              two : (end.fault ≡ None) ⊎ (end.fault ≡ Some BlobMissing) → P (failing_write b w h offset bs first)
              two (inl fine) =
                  let l = runs-lost h b.store b.sizes x e offset (chosen b.words) short room k in
                  whole-good fine (λ j _. l.others j) (λ z r. absurd (none-some k r)) (λ r. l.others x.generation ∙ r)
              two (inr met) =
                  let l = runs-lost h b.store b.sizes x e offset (chosen b.words) short room k in
                  lost-good met l.others

  -- The failure roll said no. A plain write is recorded, if retention is set.
  module _ (ov : overflow offset (length bs) ≡ None) (miss : rolled rate b.words ≡ false) where
    plain-late : Goes b pages (Write h offset bs false) Told (good_write b h offset bs false first)
    plain-late =
        let u = tape_words (taken first b.words) in
        let one : rolled rate u ≡ false = rolled-upto rate b.words u (tape-upto first b.words) ∙ miss in
        let goes : going (known N u) h offset bs false ≡ good_write (known N u) h offset bs false first = rw one in
        goes-as b pages (Write h offset bs false) Told (writing-plain b h offset bs x e f (recording b h offset bs) (Ok tt) first)
        (good-as (plain-good (Ok tt) first)
        (write-ledger false u (Ok tt) _ (puts N h offset bs) refl
        (taped false refl ov u ∙ goes ∙ writing-plain (known N u) h offset bs x e f (recording (known N u) h offset bs) (Ok tt) first) refl))

    -- A SYNC write rolls sync.
    module _ (full : is_empty bs ≡ false) where
      abbrev syncs : ℕ
      syncs = rate_of b.rates.syncs

      abbrev second : ℕ
      second = roll_taken syncs

      abbrev fed : Words
      fed = tape_words (taken (first + second) b.words)

      nonempty : (true && is_empty bs) ≡ false
      nonempty = full

      -- what the ledger's own step comes to, as far as its two rolls
      goes-sync : (t : Bool) → rolled syncs (after first b.words) ≡ t
          → write_step (known N fed) h offset bs true
          ≡ cond t (writing (known N fed) h offset bs false (recording (known N fed) h offset bs) (Err (Injected Op.Sync)) (first + second))
          (writing (known N fed) h offset bs true (log_for (known N fed) h (λ g. fixed [] g offset (map Some bs))) (Ok tt) (first + second))
      goes-sync t k =
          let same = tape-upto (first + second) b.words in
          let one : rolled rate fed ≡ false = rolled-upto rate b.words fed (upto-first first second b.words fed same) ∙ miss in
          let two : rolled syncs (after first fed) ≡ t = rolled-upto syncs (after first b.words) (after first fed) (upto_rest first second b.words fed same) ∙ k in
          let goes : going (known N fed) h offset bs true ≡ good_write (known N fed) h offset bs true first = rw one in
          taped true nonempty ov fed ∙ goes ∙ rw two

      -- yes: it writes plainly, and may be recorded
      sync-fails : rolled syncs (after first b.words) ≡ true
          → Goes b pages (Write h offset bs true) Told (writing b h offset bs false (recording b h offset bs) (Err (Injected Op.Sync)) (first + second))
      sync-fails hit =
          goes-as b pages (Write h offset bs true) Told (writing-plain b h offset bs x e f (recording b h offset bs) (Err (Injected Op.Sync)) (first + second))
          (good-as (plain-good (Err (Injected Op.Sync)) (first + second))
          (write-ledger true fed (Err (Injected Op.Sync)) _ (puts N h offset bs) refl
          (goes-sync true hit ∙ writing-plain (known N fed) h offset bs x e f (recording (known N fed) h offset bs) (Err (Injected Op.Sync)) (first + second)) refl))

      -- no: its bytes are fixed, or the file is missing
      sync-goes : rolled syncs (after first b.words) ≡ false
          → Goes b pages (Write h offset bs true) Told (writing b h offset bs true (log_for b h (λ g. fixed b.log g offset (map Some bs))) (Ok tt) (first + second))
      sync-goes quiet = go (file_of b.store.volume x.generation) refl
        where
          go : (o : Option File) → file_of b.store.volume x.generation ≡ o
              → Goes b pages (Write h offset bs true) Told (writing b h offset bs true (log_for b h (λ g. fixed b.log g offset (map Some bs))) (Ok tt) (first + second))
          go None k =
              goes-as b pages (Write h offset bs true) Told (writing-missing b h offset bs x e f (log_for b h (λ g. fixed b.log g offset (map Some bs))) (Ok tt) (first + second) k)
              (good-as (missing-good k (first + second))
              (write-ledger true fed (Err BlobMissing) _ pages refl
              (goes-sync false quiet ∙ writing-missing (known N fed) h offset bs x e f (log_for (known N fed) h (λ g. fixed [] g offset (map Some bs))) (Ok tt) (first + second) k) refl))
          go (Some y) k =
              let held : log_for b h (λ g. fixed b.log g offset (map Some bs)) ≡ fixed b.log x.generation offset (map Some bs) = rw e in
              goes-as b pages (Write h offset bs true) Told
              (writing-sync b h offset bs x e f (log_for b h (λ g. fixed b.log g offset (map Some bs))) (Ok tt) (first + second) y k
              ∙ ap (λ (es : List Entry). synchronously b x h offset bs es (Ok tt) (first + second)) held)
              (good-as (fixed-good full (first + second))
              (write-ledger true fed (Ok tt) _ _ refl
              (goes-sync false quiet ∙ writing-sync (known N fed) h offset bs x e f (log_for (known N fed) h (λ g. fixed [] g offset (map Some bs))) (Ok tt) (first + second) y k) (rw e)))

      sync-late : Goes b pages (Write h offset bs true) Told (good_write b h offset bs true first)
      sync-late =
          cond_both (rolled syncs (after first b.words)) (writing b h offset bs false (recording b h offset bs) (Err (Injected Op.Sync)) (first + second))
          (writing b h offset bs true (log_for b h (λ g. fixed b.log g offset (map Some bs))) (Ok tt) (first + second)) (Goes b pages (Write h offset bs true) Told) sync-fails sync-goes

module _ (b : Faulty) (pages : ℕ → Page) (snd : Sound b.store) (kp : KeptIn b pages) (h offset : ℕ) where
  -- a write that nothing refuses: its failure roll first
  going-good : (bs : List ℕ) (sync : Bool) → (sync && is_empty bs) ≡ false → write_refusal b h offset bs ≡ None
      → ((x : Handle) (e : handle_at b.store.handles h ≡ Some x) (f : write_fault b.store.handles h offset (length bs) ≡ None) (ov : overflow offset (length bs) ≡ None)
      → rolled (write_failure b.rates) b.words ≡ false → Goes b pages (Write h offset bs sync) Told (good_write b h offset bs sync (roll_taken (write_failure b.rates))))
      → Goes b pages (Write h offset bs sync) Told (going b h offset bs sync)
  going-good bs sync s none late =
      let parts = least-none (write_fault b.store.handles h offset (length bs)) (least (overflow offset (length bs)) (full_fault b.log (not (is_empty bs)))) none in
      let ov = (least-none (overflow offset (length bs)) (full_fault b.log (not (is_empty bs))) parts.1).0 in
      let can = writable b.store.handles h offset (length bs) parts.0 in
      let r = write_failure b.rates in
      cond_both (rolled r b.words) (when_some (retention b.rates) (λ w. failing_write b w h offset bs (roll_taken r)) (struck Op.Write b [] (roll_taken r))) (good_write b h offset bs sync (roll_taken r))
      (Goes b pages (Write h offset bs sync) Told)
      (λ hit. go can.handle can.found parts.0 ov hit (retention b.rates) refl)
      (λ miss. late can.handle can.found parts.0 ov miss)
    where
      go : (x : Handle) → handle_at b.store.handles h ≡ Some x → write_fault b.store.handles h offset (length bs) ≡ None → overflow offset (length bs) ≡ None
          → rolled (write_failure b.rates) b.words ≡ true → (o : Option WriteRates) → retention b.rates ≡ o
          → Goes b pages (Write h offset bs sync) Told (when_some o (λ w. failing_write b w h offset bs (roll_taken (write_failure b.rates))) (struck Op.Write b [] (roll_taken (write_failure b.rates))))
      go x e f ov hit None q = struck-good b pages snd kp h offset bs x e f sync s ov q hit
      go x e f ov hit (Some w) q = failing-good b pages snd kp h offset bs x e f sync s ov w q hit

  pub write-good : (bs : List ℕ) (sync : Bool) → Goes b pages (Write h offset bs sync) Told (write_step b h offset bs sync)
  write-good bs false =
      turned-good b pages snd kp (Write h offset bs false) Told (λ g. refl) (write_refusal b h offset bs) (refusal-early b h offset bs) [] (going b h offset bs false)
      (λ none. going-good bs false refl none (λ x e f ov miss. plain-late b pages snd kp h offset bs x e f ov miss))
  write-good (c ∷ cs) true =
      turned-good b pages snd kp (Write h offset (c ∷ cs) true) Told (λ g. refl) (write_refusal b h offset (c ∷ cs)) (refusal-early b h offset (c ∷ cs)) [] (going b h offset (c ∷ cs) true)
      (λ none. going-good (c ∷ cs) true refl none (λ x e f ov miss. sync-late b pages snd kp h offset (c ∷ cs) x e f ov miss refl))
  -- an empty SYNC write succeeds after the handle check alone
  write-good [] true = go (held_fault b.store.handles h) refl (held-early b.store.handles h)
    where
      go : (o : Option Fault) → held_fault b.store.handles h ≡ o → Early o → Goes b pages (Write h offset [] true) Told (done (refused o (Ok tt)) [] 0 b)
      go (Some g) k a = good-as (unchanged b pages snd kp) (rw a)
      go None k a = good-as (unchanged b pages snd kp) (ap (note_of b) (none-fixed (handle_at b.store.handles h)))
        where
          none-fixed : (o : Option Handle) → when_some o (λ y. turned_page y.generation (fix_range (y.header + offset) []) pages) pages ≡ pages
          none-fixed None = refl
          none-fixed (Some y) = turned_none y.generation (fix_range (y.header + offset) []) pages (λ page. refl)
