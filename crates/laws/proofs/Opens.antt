-- An open keeps bench and ledger together, in the injection layer and in the register above it.
use Rattle.std.proofs.Common.{◌≡◌, ℕ, ◌+◌, Bool, true, false, cond, ◌||◌, List, [], ◌∷◌, ◌++◌, is_some, Some, None, Ok, Err, Option, Result, sym, refl, ap, ◌∙◌, subst}
use Rattle.laws.proofs.Files.{unissued}
use Rattle.std.proofs.lemmas.Bool.{eq-eqb, ne_eqb}
use Rattle.fault.specs.declared.Op.TheVariants as Op
use Rattle.fault.specs.declared.Fault.{Fault}
use Rattle.fault.specs.declared.Fault.TheVariants.{TooLong, TableFull, BadPartition, AlreadyOpen}
use Rattle.draw.specs.Words.{Words, after, rolled, roll_taken}
use Rattle.draw.specs.Sources.{tape_words}
use Rattle.name.specs.Names.{is_partition}
use Rattle.store.proofs.Keys.{found_push_other, found-push-new}
use Rattle.store.specs.declared.file.File.{File}
use Rattle.store.specs.Meaning.{Disk}
use Rattle.store.specs.Live.{held_fault, handles_full, handles_with}
use Rattle.store.specs.Durable.{generated, file_at, file_stands, new_file, opened_file, opened_volume, open_too_long, crowded}
use Rattle.store.specs.Whole.{open_fault, opened, size_of}
use Rattle.steps.specs.State.{Faulty, Bench, Outcome, rate_of, changed}
use Rattle.steps.specs.Faulty.{struck, done, open_step, close_step}
use Rattle.steps.specs.Register.{leased, lifted, registered}
use Rattle.steps.specs.Calls.{Call, Open, Reply, Opened}
use Rattle.reached.specs.Sound.{Sound}
use Rattle.reached.proofs.Steps.{close-sound}
use Rattle.reached.proofs.Runs.{open-sound}
use Rattle.laws.specs.Pages.{Page, fix_whole}
use Rattle.laws.specs.Ledger.{known, followed, feed, open_pages, turned as turned_page}
use Rattle.laws.specs.Promises.{taken}
use Rattle.laws.proofs.Keeps.{Kept, kept_same, kept-made}
use Rattle.laws.proofs.Good.{note_of, KeptIn, Good, good-as, Early, early-cond, unchanged, drawn}
use Rattle.laws.proofs.Syncs.{fed-roll, closing}

-- the store after an open that is accepted
abbrev pub opened_ok : Disk → List ℕ → List ℕ → List ℕ → Disk
opened_ok m p n header =
    let f = opened_file m.volume p n header m.generations in
    record {
      volume = opened_volume m.volume p n header m.generations;
      handles = handles_with m.handles m.issued f.generation f.header f.durable;
      generations = cond (file_stands m.volume p n) m.generations (m.generations + 1);
      issued = m.issued + 1;
    }

abbrev pub first_size : Disk → List ℕ → List ℕ → List ℕ → ℕ
first_size m p n header = size_of (opened_file m.volume p n header m.generations)

pub opened-ok : (m : Disk) (p n header : List ℕ) → open_fault m p n header ≡ None → is_partition p ≡ true → opened m p n header ≡ opened_ok m p n header
opened-ok m p n header f v = rw (f, v)

-- What an open comes to in the injection layer.
abbrev pub accepted : Faulty → List ℕ → List ℕ → List ℕ → Outcome Faulty (Result (ℕ × ℕ) Fault)
accepted b p n header =
    done (Ok (b.store.issued, first_size b.store p n header)) [] (roll_taken (rate_of b.rates.opens))
    (changed b (opened_ok b.store p n header) b.log (b.sizes ++ (record { handle = b.store.issued; size = first_size b.store p n header } ∷ [])))

module _ (b : Faulty) (p n header : List ℕ) where
  pub open-refused : (g : Fault) → open_fault b.store p n header ≡ Some g → open_step b p n header ≡ record { answer = Err g; area = []; taken = 0; next = b }
  open-refused g f = rw f

  module _ (f : open_fault b.store p n header ≡ None) where
    pub open-struck : rolled (rate_of b.rates.opens) b.words ≡ true → open_step b p n header ≡ struck Op.Open b [] (roll_taken (rate_of b.rates.opens))
    open-struck hit = rw (f, hit)

    pub open-bad : rolled (rate_of b.rates.opens) b.words ≡ false → is_partition p ≡ false → open_step b p n header ≡ done (Err BadPartition) [] (roll_taken (rate_of b.rates.opens)) b
    open-bad miss v = rw (f, miss, v)

    pub open-ok : rolled (rate_of b.rates.opens) b.words ≡ false → is_partition p ≡ true → open_step b p n header ≡ accepted b p n header
    open-ok miss v = rw (f, miss, v)

pub open-early : (m : Disk) (p n header : List ℕ) → Early (open_fault m p n header)
open-early m p n header =
    early-cond (open_too_long p n header) (Some TooLong) _ refl (early-cond (handles_full m.handles m.issued || crowded m.volume p n) (Some TableFull) None refl tt)

-- the outcome of a call on the whole bench is good
abbrev pub Goes : Bench → (ℕ → Page) → Call → Outcome Bench Reply → Type 0
Goes b pages c o = Good o.next.under (feed (note_of b.under pages) c o.answer (taken o.taken b.under.words) o.next.under.store.volume.files)

module _ (b : Faulty) (pages : ℕ → Page) (snd : Sound b.store) (kp : KeptIn b pages) (p n header : List ℕ) where
  opened-kept : Kept (opened_volume b.store.volume p n header b.store.generations) (cond (file_stands b.store.volume p n) b.store.generations (b.store.generations + 1)) b.log
      (open_pages (note_of b pages) p n header)
  opened-kept = go (file_at b.store.volume p n)
    where
      go : (o : Option File) → Kept (record {
        partitions = (opened_volume b.store.volume p n header b.store.generations).partitions;
        files = cond (is_some o) b.store.volume.files (b.store.volume.files ++ (new_file p n header b.store.generations ∷ []));
      })
          (cond (is_some o) b.store.generations (b.store.generations + 1)) b.log
          (cond (is_some o) pages (turned_page b.store.generations (λ _. fix_whole header) pages))
      go (Some f) = kept_same (λ k. refl) (λ k d. refl) kp
      go None =
          let g = b.store.generations in
          kept-made (new_file p n header g)
          (found-push-new (generated g) b.store.volume.files (new_file p n header g) (unissued (λ (f : File). f.generation) g b.store.volume.files snd.files.generations_issued) (eq-eqb g g refl))
          (λ k m. found_push_other (generated k) b.store.volume.files (new_file p n header g) (ne_eqb g k m)) kp

  module _ (f : open_fault b.store p n header ≡ None) (v : is_partition p ≡ true) where
    opened-sound : Sound (opened_ok b.store p n header)
    opened-sound = rw (opened-ok b.store p n header f v) at (open-sound b.store p n header snd)

    accepted-good : Good (accepted b p n header).next (note_of (accepted b p n header).next (open_pages (note_of b pages) p n header))
    accepted-good = record { agree = refl; sound = opened-sound; kept = opened-kept }

    -- the register closes the new handle again
    closed-good : Good (close_step (accepted b p n header).next b.store.issued).next
        (note_of (close_step (accepted b p n header).next b.store.issued).next (open_pages (note_of b pages) p n header))
    closed-good = go (held_fault (opened_ok b.store p n header).handles b.store.issued)
      where
        go : (o : Option Fault) → Good (closing (accepted b p n header).next b.store.issued o).next
            (note_of (closing (accepted b p n header).next b.store.issued o).next (open_pages (note_of b pages) p n header))
        go (Some g) = accepted-good
        go None = record { agree = refl; sound = close-sound (opened_ok b.store p n header) b.store.issued opened-sound; kept = opened-kept }

    -- the ledger's own close comes to the same
    closed_same : (u : Words) (o : Option Fault) → followed (closing (accepted (known (note_of b pages) u) p n header).next b.store.issued o) (open_pages (note_of b pages) p n header)
        ≡ note_of (closing (accepted b p n header).next b.store.issued o).next (open_pages (note_of b pages) p n header)
    closed_same u (Some g) = refl
    closed_same u None = refl

-- an open on the whole bench, by what it comes to in the layer below
abbrev pub told : Bench → List ℕ → List ℕ → Outcome Faulty (Result (ℕ × ℕ) Fault) → Outcome Bench Reply
told b p n o = let r = registered b.leases p n o o.answer in record { answer = Opened r.answer; area = r.area; taken = r.taken; next = r.next }

module _ (b : Bench) (pages : ℕ → Page) (snd : Sound b.under.store) (kp : KeptIn b.under pages) (p n header : List ℕ) where
  abbrev call : Call
  call = Open p n header

  abbrev r : ℕ
  r = rate_of b.under.rates.opens

  abbrev u : Words
  u = tape_words (taken (roll_taken r) b.under.words)

  goes-below : (o : Outcome Faulty (Result (ℕ × ℕ) Fault)) → open_step b.under p n header ≡ o → Goes b pages call (told b p n o) → Goes b pages call (told b p n (open_step b.under p n header))
  goes-below o e h = subst (λ x. Goes b pages call (told b p n x)) (sym e) h

  registered-good : open_fault b.under.store p n header ≡ None → rolled r b.under.words ≡ false → is_partition p ≡ true → Goes b pages call (told b p n (accepted b.under p n header))
  registered-good f miss v = go (leased b.leases p n)
    where
      same : rolled r u ≡ false
      same = fed-roll b.under pages snd kp r ∙ miss

      step : open_step (known (note_of b.under pages) u) p n header ≡ accepted (known (note_of b.under pages) u) p n header
      step = open-ok (known (note_of b.under pages) u) p n header f same v

      go : (t : Bool) → Goes b pages call
          (let o = accepted b.under p n header in
          let k = cond t
          (record { answer = Err AlreadyOpen; area = o.area; taken = o.taken; next = record { under = (close_step o.next b.under.store.issued).next; leases = b.leases } })
          (lifted o (b.leases ++ (record { partition = p; name = n; handle = b.under.store.issued } ∷ []))) in
          record { answer = Opened k.answer; area = k.area; taken = k.taken; next = k.next })
      go false = good-as (accepted-good b.under pages snd kp p n header f v) (rw step)
      go true =
          good-as (closed-good b.under pages snd kp p n header f v)
          (ap (λ (o : Outcome Faulty (Result (ℕ × ℕ) Fault)). followed (close_step o.next b.under.store.issued) (open_pages (note_of b.under pages) p n header)) step
          ∙ closed_same b.under pages snd kp p n header f v u (held_fault (opened_ok b.under.store p n header).handles b.under.store.issued))

  pub open-good : Goes b pages call (told b p n (open_step b.under p n header))
  open-good = go (open_fault b.under.store p n header) refl (open-early b.under.store p n header)
    where
      rolls : open_fault b.under.store p n header ≡ None → (t : Bool) → rolled r b.under.words ≡ t → Goes b pages call (told b p n (open_step b.under p n header))
      rolls f true hit = goes-below (struck Op.Open b.under [] (roll_taken r)) (open-struck b.under p n header f hit) (drawn b.under pages snd kp (after (roll_taken r) b.under.words))
      rolls f false miss = named (is_partition p) refl
        where
          named : (t : Bool) → is_partition p ≡ t → Goes b pages call (told b p n (open_step b.under p n header))
          named true v = goes-below (accepted b.under p n header) (open-ok b.under p n header f miss v) (registered-good f miss v)
          named false v = goes-below (done (Err BadPartition) [] (roll_taken r) b.under) (open-bad b.under p n header f miss v) (drawn b.under pages snd kp (after (roll_taken r) b.under.words))

      go : (o : Option Fault) → open_fault b.under.store p n header ≡ o → Early o → Goes b pages call (told b p n (open_step b.under p n header))
      go (Some g) f a =
          goes-below (record { answer = Err g; area = []; taken = 0; next = b.under }) (open-refused b.under p n header g f) (good-as (unchanged b.under pages snd kp) (rw a))
      go None f a = rolls f (rolled r b.under.words) refl
