-- Removals keep bench and ledger together.
use Rattle.std.proofs.Common.{◌≡◌, ℕ, Bool, true, false, cond, not, ◌||◌, ◌⊎◌, List, [], ◌∷◌, Some, None, Ok, Err, filter, Option, sym, refl, ap, ◌∙◌, inl, inr}
use Rattle.std.specs.Option.{option_map}
use Rattle.std.specs.List.{AllByRecursion, fold}
use Rattle.std.specs.Str.{bytes_eq}
use Rattle.std.proofs.ByRecursion.{All-map}
use Rattle.std.proofs.lemmas.Bool.{cond_both, cases_eq, ne_eqb, both_ways, not_from_true, not_from_false}
use Rattle.fault.specs.declared.Op.TheVariants as Op
use Rattle.fault.specs.declared.Fault.{Fault}
use Rattle.fault.specs.declared.Fault.TheVariants.{TooLong, BadPartition, PartitionMissing, BlobMissing}
use Rattle.draw.specs.Words.{Words, after, rolled, roll_taken}
use Rattle.draw.specs.Sources.{tape_words}
use Rattle.name.specs.Names.{is_partition}
use Rattle.std.specs.List.{find}
use Rattle.store.specs.Tables.{without}
use Rattle.store.proofs.Keys.{found-removed, found-kept, found-kept-none}
use Rattle.store.specs.declared.file.File.{File}
use Rattle.store.specs.Meaning.{Volume, Done, with_files, with_volume, when_some, when_ok, refused}
use Rattle.store.specs.Durable.{named, in_partition, generated, file_at, file_of, partition_stands, name_too_long, remove_fault, remove_answer, removed, remove_partition_fault, remove_partition_answer, removed_partition, generation_at, generations_in}
use Rattle.steps.specs.Log.{Entry, dropped}
use Rattle.steps.specs.State.{Faulty, Outcome, rate_of, changed}
use Rattle.steps.specs.Faulty.{turned, struck, rolling, done, generations_of, remove_step, remove_partition_step}
use Rattle.steps.specs.Calls.{Call, Remove, Reply, Told}
use Rattle.reached.specs.Sound.{Sound}
use Rattle.reached.proofs.Lists.{distinct-found, all-kept}
use Rattle.reached.proofs.Steps.{remove-sound, remove-partition-sound}
use Rattle.laws.specs.Pages.{Page}
use Rattle.laws.specs.Ledger.{early, known, followed, fed}
use Rattle.laws.specs.Promises.{taken}
use Rattle.laws.proofs.Files.{gone-without, gone-kept, file-generation}
use Rattle.laws.proofs.Keeps.{Kept, kept-removed}
use Rattle.laws.proofs.Good.{note_of, KeptIn, good-as, Goes, Early, early-cond, turned-good, drawn}
use Rattle.laws.proofs.Syncs.{fed-roll}

-- a removal that succeeds has a file
remove-found : (v : Volume) (p n : List ℕ) → remove_answer v p n ≡ Ok tt → (f : File) × (file_at v p n ≡ Some f)
remove-found v p n e = go (remove_fault p n) (is_partition p) (partition_stands v p) (file_at v p n) refl e
  where
    go : (r : Option Fault) (s t : Bool) (o : Option File) → file_at v p n ≡ o
        → refused {A = Unit {0}} r (cond s (cond t (when_some o (λ f. Ok tt) (Err BlobMissing)) (Err PartitionMissing)) (Err BadPartition)) ≡ Ok tt → (f : File) × (file_at v p n ≡ Some f)
    go r s t (Some f) q e = (f, q)
    go (Some g) s t None q e = cc
    go None false t None q e = cc
    go None true false None q e = cc
    go None true true None q e = cc

-- what a removal leaves once its roll said no
abbrev pub taking_out : Faulty → Done → Volume → List Entry → Outcome Faulty Done
taking_out b a v es = done a [] (roll_taken (rate_of b.rates.removes)) (changed b (with_volume b.store v) es b.sizes)

abbrev generation_is : File → ℕ
generation_is f = f.generation

module _ (b : Faulty) (pages : ℕ → Page) (snd : Sound b.store) (kp : KeptIn b pages) where
  abbrev v : Volume
  v = b.store.volume

  -- one file goes, with the entries of its generation
  file-ways : (p n : List ℕ) (f : File) → file_at v p n ≡ Some f → (k : ℕ)
      → (file_of (with_files v (without (named p n) v.files)) k ≡ None)
      ⊎ ((file_of (with_files v (without (named p n) v.files)) k ≡ file_of v k) × AllByRecursion (λ g. g ≡ k → ⊥) (f.generation ∷ []))
  file-ways p n f e k = go (cases_eq f.generation k)
    where
      go : (f.generation ≡ k) ⊎ (f.generation ≡ k → ⊥)
          → (file_of (with_files v (without (named p n) v.files)) k ≡ None)
          ⊎ ((file_of (with_files v (without (named p n) v.files)) k ≡ file_of v k) × AllByRecursion (λ g. g ≡ k → ⊥) (f.generation ∷ []))
      go (inl s) =
          inl (ap (λ (j : ℕ). find (generated j) (without (named p n) v.files)) (sym s) ∙ gone-without generation_is (named p n) v.files f e snd.files.generations_distinct)
      go (inr m) = inr (found-removed (generated k) (named p n) v.files f e (ne_eqb f.generation k m), (m, tt))

  removed-kept : (p n : List ℕ)
      → Kept (removed v p n) b.store.generations (when_ok (remove_answer v p n) (fold dropped b.log (generations_of (generation_at v p n))) b.log) pages
  removed-kept p n = go (remove_answer v p n) refl
    where
      go : (r : Done) → remove_answer v p n ≡ r
          → Kept (when_ok r (with_files v (without (named p n) v.files)) v) b.store.generations (when_ok r (fold dropped b.log (generations_of (generation_at v p n))) b.log) pages
      go (Err g) e = kp
      go (Ok u) e =
          let f = remove-found v p n e in
          let gs : generations_of (generation_at v p n) ≡ f.0.generation ∷ [] = ap (λ (o : Option File). generations_of (option_map generation_is o)) f.1 in
          rw gs (kept-removed (f.0.generation ∷ []) (file-ways p n f.0 f.1) kp)

  -- a whole partition goes, with the entries of its files' generations
  abbrev emptied : List ℕ → Volume
  emptied p = record { partitions = without (λ q. bytes_eq q p) v.partitions; files = filter (λ f. not (in_partition p f)) v.files }

  partition-ways : (p : List ℕ) (k : ℕ) → (file_of (emptied p) k ≡ None) ⊎ ((file_of (emptied p) k ≡ file_of v k) × AllByRecursion (λ g. g ≡ k → ⊥) (generations_in v p))
  partition-ways p k = go (file_of v k) refl
    where
      apart : (f : File) → file_of v k ≡ Some f → in_partition p f ≡ false → AllByRecursion (λ g. g ≡ k → ⊥) (generations_in v p)
      apart f e out =
          let same : AllByRecursion (λ y. f.generation ≡ y.generation → in_partition p y ≡ false) v.files =
          distinct-found generation_is (generated k) (λ y. in_partition p y ≡ false) v.files f e snd.files.generations_distinct out in
          All-map (λ g. g ≡ k → ⊥) generation_is (filter (in_partition p) v.files)
          (all-kept (λ y. f.generation ≡ y.generation → in_partition p y ≡ false) (λ y. y.generation ≡ k → ⊥) (in_partition p)
          (λ y t h q. both_ways (in_partition p y) (h (file-generation v k f e ∙ sym q)) t) v.files same)

      two : (f : File) → file_of v k ≡ Some f → (t : Bool) → in_partition p f ≡ t → (file_of (emptied p) k ≡ None) ⊎ ((file_of (emptied p) k ≡ file_of v k) × AllByRecursion (λ g. g ≡ k → ⊥) (generations_in v p))
      two f e true t = inl (gone-kept generation_is (λ y. not (in_partition p y)) k v.files f e (not_from_true (in_partition p f) t) snd.files.generations_distinct)
      two f e false t = inr (found-kept (generated k) (λ y. not (in_partition p y)) v.files f e (not_from_false (in_partition p f) t) ∙ sym e, apart f e t)

      go : (o : Option File) → file_of v k ≡ o → (file_of (emptied p) k ≡ None) ⊎ ((file_of (emptied p) k ≡ file_of v k) × AllByRecursion (λ g. g ≡ k → ⊥) (generations_in v p))
      go None e = inl (found-kept-none (generated k) (λ y. not (in_partition p y)) v.files e)
      go (Some f) e = two f e (in_partition p f) refl

  emptied-kept : (p : List ℕ)
      → Kept (removed_partition v p) b.store.generations (when_ok (remove_partition_answer v p) (fold dropped b.log (generations_in v p)) b.log) pages
  emptied-kept p = go (remove_partition_answer v p)
    where
      go : (r : Done) → Kept (when_ok r (emptied p) v) b.store.generations (when_ok r (fold dropped b.log (generations_in v p)) b.log) pages
      go (Err g) = kp
      go (Ok u) = kept-removed (generations_in v p) (partition-ways p) kp

  -- a removal of either kind: it rolls, and then leaves a volume and a log
  abbrev r : ℕ
  r = rate_of b.rates.removes

  module _ (c : Call) (f : Option Fault) (first : Early f) (a : Done) (late : f ≡ None → early (Told a) ≡ false) (w : Volume) (es ks : List Entry)
      (feeds : (reply : Reply) (u : Words) (fs : List File) → fed (note_of b pages) c reply u fs
      ≡ followed (turned f (known (note_of b pages) u) [] (rolling r Op.Remove (known (note_of b pages) u) [] (taking_out (known (note_of b pages) u) a w ks))) pages)
      (sound : Sound (with_volume b.store w)) (kept : Kept w b.store.generations es pages) where
    removal-good : Goes b pages c Told (turned f b [] (rolling r Op.Remove b [] (taking_out b a w es)))
    removal-good =
        turned-good b pages snd kp c Told (λ g. refl) f first [] (rolling r Op.Remove b [] (taking_out b a w es))
        (λ none.
        let u = tape_words (taken (roll_taken r) b.words) in
        let same = fed-roll b pages snd kp r in
        cond_both (rolled r b.words) (struck Op.Remove b [] (roll_taken r)) (taking_out b a w es) (Goes b pages c Told)
        (λ hit. good-as (drawn b pages snd kp (after (roll_taken r) b.words)) (feeds _ u _ ∙ (let y : rolled r u ≡ true = same ∙ hit in rw (none, y))))
        (λ miss. good-as (record { agree = refl; sound = sound; kept = kept }) (let y : rolled r u ≡ false = same ∙ miss in rw (late none) (feeds _ u _ ∙ rw (none, y)))))

  answer-late : (s t : Bool) (x : Done) → early (Told x) ≡ false → early (Told (cond s (cond t x (Err PartitionMissing)) (Err BadPartition))) ≡ false
  answer-late true true x h = h
  answer-late true false x h = refl
  answer-late false t x h = refl

  pub remove-good : (p n : List ℕ) → Goes b pages (Remove p (Some n)) Told (remove_step b p n)
  remove-good p n =
      removal-good (Remove p (Some n)) (remove_fault p n) (early-cond (name_too_long p || name_too_long n) (Some TooLong) None refl tt) (remove_answer v p n)
      (λ none. rw none (answer-late (is_partition p) (partition_stands v p) (when_some (file_at v p n) (λ f. Ok tt) (Err BlobMissing)) (found-late (file_at v p n))))
      (removed v p n) (when_ok (remove_answer v p n) (fold dropped b.log (generations_of (generation_at v p n))) b.log)
      (when_ok (remove_answer v p n) (fold dropped [] (generations_of (generation_at v p n))) [])
      (λ reply u fs. refl) (remove-sound b.store p n snd) (removed-kept p n)
    where
      found-late : (o : Option File) → early (Told (when_some o (λ f. Ok tt) (Err BlobMissing))) ≡ false
      found-late None = refl
      found-late (Some f) = refl

  pub remove-partition-good : (p : List ℕ) → Goes b pages (Remove p None) Told (remove_partition_step b p)
  remove-partition-good p =
      removal-good (Remove p None) (remove_partition_fault p) (early-cond (name_too_long p) (Some TooLong) None refl tt) (remove_partition_answer v p)
      (λ none. rw none (answer-late (is_partition p) (partition_stands v p) (Ok tt) refl))
      (removed_partition v p) (when_ok (remove_partition_answer v p) (fold dropped b.log (generations_in v p)) b.log)
      (when_ok (remove_partition_answer v p) (fold dropped [] (generations_in v p)) [])
      (λ reply u fs. refl) (remove-partition-sound b.store p snd) (emptied-kept p)
