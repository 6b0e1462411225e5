-- Opens, removals, closes and restarts: which files stand and which handles are held after them.
use Rattle.std.proofs.Common.{◌≡◌, ℕ, Bool, true, false, cond, not, ◌&&◌, eqb, ◌⊎◌, List, [], ◌∷◌, ◌++◌, map, is_some, Some, None, Ok, Err, filter, Option, sym, refl, ap, ◌∙◌, inl, inr, arith}
use Rattle.std.proofs.lemmas.Bool.Decides.{nat_tests}
use Rattle.laws.proofs.Files.{unissued}
use Rattle.std.proofs.Math.Bool.{and-true}
use Rattle.std.specs.Result.{is_ok}
use Rattle.std.specs.List.{AllByRecursion}
use Rattle.std.specs.Str.{bytes_eq}
use Rattle.std.proofs.ByRecursion.{All-weaker}
use Rattle.std.proofs.lemmas.Slice.Eq.{bytes_eq-Decides}
use Rattle.std.proofs.lemmas.Bool.{cond_both, cond-true, cond-false, eq-eqb, ne_eqb, cases_eq, eqb-true, both_ways, and_parts, and_from, and_left, and_right, not_from_true, not_from_false}
use Rattle.fault.specs.declared.Op.TheVariants as Op
use Rattle.fault.specs.declared.Fault.{Fault}
use Rattle.draw.specs.Words.{rolled, roll_taken}
use Rattle.std.specs.List.{find}
use Rattle.store.specs.Tables.{without}
use Rattle.store.proofs.Keys.{found-without-other, found-kept, found-kept-none, found_push_other, found-push-new}
use Rattle.store.specs.declared.file.File.{File}
use Rattle.store.specs.declared.handle.Handle.{Handle}
use Rattle.store.specs.Meaning.{Disk, Volume, Done, with_files, when_some, when_ok}
use Rattle.store.specs.Live.{numbered, handle_at, closed, held_fault}
use Rattle.store.specs.Durable.{named, in_partition, file_at, file_stands, new_file, opened_file, remove_fault, remove_answer, remove_partition_fault, remove_partition_answer}
use Rattle.steps.specs.Log.{Entry}
use Rattle.steps.specs.State.{Faulty, Outcome, rate_of}
use Rattle.steps.specs.Faulty.{turned, struck, rolling, close_step, remove_step, remove_partition_step}
use Rattle.reached.specs.Sound.{Sound, Distinct, name_of}
use Rattle.reached.proofs.Lists.{found-passes}
use Rattle.laws.proofs.Good.{turned-both}
use Rattle.laws.proofs.Syncs.{closing}
use Rattle.laws.proofs.Removes.{taking_out}
use Rattle.laws.proofs.Opens.{opened_ok}
use Rattle.laws.proofs.Counts.{closed_none}

-- Names as keys.
same_bytes : (q p : List ℕ) → bytes_eq q p ≡ true → q ≡ p
same_bytes q p e = (bytes_eq-Decides q p).0 e

-- one file has one name
one_name : (q m p n : List ℕ) (f : File) → named q m f ≡ true → named p n f ≡ true → (bytes_eq q p && bytes_eq m n) ≡ true
one_name q m p n f a b =
    let x = and_parts (bytes_eq f.partition q) (bytes_eq f.name m) a in
    let y = and_parts (bytes_eq f.partition p) (bytes_eq f.name n) b in
    and_from (bytes_eq q p) (bytes_eq m n)
    ((bytes_eq-Decides q p).1 (sym (same_bytes f.partition q x.0) ∙ same_bytes f.partition p y.0))
    ((bytes_eq-Decides m n).1 (sym (same_bytes f.name m x.1) ∙ same_bytes f.name n y.1))

other_name : (q m p n : List ℕ) → (bytes_eq q p && bytes_eq m n) ≡ false → (f : File) → named q m f ≡ true → named p n f ≡ false
other_name q m p n e f a = grind (arith, one_name q m p n f a)

-- where a test tells keys apart, no row passes once the first that did is gone
module _ {A K : Type 0} (key : A → K) (p : A → Bool) (tells : (x y : A) → p x ≡ true → p y ≡ true → key x ≡ key y) where
  none_other : (x : A) (xs : List A) → p x ≡ true → AllByRecursion (λ k. key x ≡ k → ⊥) (map key xs) → find p xs ≡ None
  none_other x [] e a = refl
  none_other x (y ∷ ys) e a = grind (arith, none_other x ys e a.1, tells x y e, a.0)

  none_left : (xs : List A) → Distinct (map key xs) → find p (without p xs) ≡ None
  none_left [] d = refl
  none_left (x ∷ xs) d = grind (arith, none_left xs d.1, none_other x xs, d.0)

-- rows that pass are not kept
none_kept : {A : Type 0} (p q : A → Bool) → ((x : A) → p x ≡ true → q x ≡ false) → (xs : List A) → find p (filter q xs) ≡ None
none_kept p q h [] = refl
none_kept p q h (x ∷ xs) = grind (arith, h x, none_kept p q h xs)

-- A removal.
module _ (v : Volume) where
  -- once the file of a name is gone
  removed-stands : Distinct (map name_of v.files) → (q m p n : List ℕ) → file_stands (with_files v (without (named q m) v.files)) p n ≡ cond (bytes_eq q p && bytes_eq m n) false (file_stands v p n)
  removed-stands d q m p n = go (bytes_eq q p && bytes_eq m n) refl
    where
      tells : (x y : File) → named p n x ≡ true → named p n y ≡ true → name_of x ≡ name_of y
      tells x y a b =
          let i = and_parts (bytes_eq x.partition p) (bytes_eq x.name n) a in
          let j = and_parts (bytes_eq y.partition p) (bytes_eq y.name n) b in
          let e : x.partition ≡ y.partition = same_bytes x.partition p i.0 ∙ sym (same_bytes y.partition p j.0) in
          let f : x.name ≡ y.name = same_bytes x.name n i.1 ∙ sym (same_bytes y.name n j.1) in
          rw (e, f)

      go : (t : Bool) → (bytes_eq q p && bytes_eq m n) ≡ t → is_some (find (named p n) (without (named q m) v.files)) ≡ cond t false (file_stands v p n)
      go true e =
          let s = and_parts (bytes_eq q p) (bytes_eq m n) e in
          let a : q ≡ p = same_bytes q p s.0 in
          let b : m ≡ n = same_bytes m n s.1 in
          let gone : find (named p n) (without (named q m) v.files) ≡ None = rw (a, b) (none_left name_of (named p n) tells v.files d) in
          ap is_some gone
      go false e = ap is_some (found-without-other (named p n) (named q m) (other_name q m p n e) v.files)

  -- once a partition is gone
  emptied-stands : (ps : List (List ℕ)) (q p n : List ℕ) → file_stands (record { partitions = ps; files = filter (λ f. not (in_partition q f)) v.files }) p n ≡ cond (bytes_eq q p) false (file_stands v p n)
  emptied-stands ps q p n = go (bytes_eq q p) refl
    where
      in-it : (f : File) → named p n f ≡ true → f.partition ≡ p
      in-it f a = same_bytes f.partition p (and_parts (bytes_eq f.partition p) (bytes_eq f.name n) a).0

      out : bytes_eq q p ≡ false → (f : File) → f.partition ≡ p → in_partition q f ≡ false
      out e f s = two (in_partition q f) refl
        where
          two : (t : Bool) → in_partition q f ≡ t → t ≡ false
          two true b = absurd (both_ways (bytes_eq q p) e ((bytes_eq-Decides q p).1 (sym (same_bytes f.partition q b) ∙ s)))
          two false b = refl

      stays : bytes_eq q p ≡ false → (o : Option File) → find (named p n) v.files ≡ o → is_some (find (named p n) (filter (λ f. not (in_partition q f)) v.files)) ≡ is_some o
      stays e None k = ap is_some (found-kept-none (named p n) (λ f. not (in_partition q f)) v.files k)
      stays e (Some f) k =
          ap is_some (found-kept (named p n) (λ x. not (in_partition q x)) v.files f k (not_from_false (in_partition q f) (out e f (in-it f (found-passes (named p n) v.files f k)))))

      go : (t : Bool) → bytes_eq q p ≡ t → is_some (find (named p n) (filter (λ f. not (in_partition q f)) v.files)) ≡ cond t false (file_stands v p n)
      go true e =
          ap is_some (none_kept (named p n) (λ f. not (in_partition q f))
          (λ f a. not_from_true (in_partition q f) ((bytes_eq-Decides f.partition q).1 (in-it f a ∙ sym (same_bytes q p e)))) v.files)
      go false e = stays e (file_at v p n) refl

-- an answer that is a fault leaves what stands
unless : (t was : Bool) → was ≡ cond (t && false) false was
unless t was = sym (cond-false (t && false) false was (and_right t false refl))

module _ (b : Faulty) (snd : Sound b.store) where
  -- a removal of either kind, by the volume that it leaves where it succeeds
  module _ (t : Bool) (p n : List ℕ) (f : Option Fault) (a : Done) (v : Volume) (es : List Entry) (goes : file_stands v p n ≡ cond t false (file_stands b.store.volume p n)) where
    abbrev P : Outcome Faulty Done → Type 0
    P o = file_stands o.next.store.volume p n ≡ cond (t && is_ok o.answer) false (file_stands b.store.volume p n)

    after-removal : P (turned f b [] (rolling (rate_of b.rates.removes) Op.Remove b [] (taking_out b a (when_ok a v b.store.volume) es)))
    after-removal =
        turned-both f b [] (rolling (rate_of b.rates.removes) Op.Remove b [] (taking_out b a (when_ok a v b.store.volume) es)) P (λ g e. unless t (file_stands b.store.volume p n))
        (λ none. cond_both (rolled (rate_of b.rates.removes) b.words) (struck Op.Remove b [] (roll_taken (rate_of b.rates.removes))) (taking_out b a (when_ok a v b.store.volume) es) P
        (λ _. unless t (file_stands b.store.volume p n)) (λ _. go a))
      where
        go : (a : Done) → file_stands (when_ok a v b.store.volume) p n ≡ cond (t && is_ok a) false (file_stands b.store.volume p n)
        go (Err g) = unless t (file_stands b.store.volume p n)
        go (Ok u) = goes ∙ ap (λ (s : Bool). cond s false (file_stands b.store.volume p n)) (sym (and-true t))

  pub remove-stands : (q m p n : List ℕ)
      → (let o = remove_step b q m in file_stands o.next.store.volume p n ≡ cond ((bytes_eq q p && bytes_eq m n) && is_ok o.answer) false (file_stands b.store.volume p n))
  remove-stands q m p n =
      after-removal (bytes_eq q p && bytes_eq m n) p n (remove_fault q m) (remove_answer b.store.volume q m) (with_files b.store.volume (without (named q m) b.store.volume.files)) _
      (removed-stands b.store.volume snd.files.names_distinct q m p n)

  pub remove-partition-stands : (q p n : List ℕ)
      → (let o = remove_partition_step b q in file_stands o.next.store.volume p n ≡ cond (bytes_eq q p && is_ok o.answer) false (file_stands b.store.volume p n))
  remove-partition-stands q p n =
      after-removal (bytes_eq q p) p n (remove_partition_fault q) (remove_partition_answer b.store.volume q)
      (record { partitions = without (λ x. bytes_eq x q) b.store.volume.partitions; files = filter (λ f. not (in_partition q f)) b.store.volume.files }) _
      (emptied-stands b.store.volume (without (λ x. bytes_eq x q) b.store.volume.partitions) q p n)

  -- a close
  pub close-held : (h k : ℕ) → (let o = close_step b h in is_some (handle_at o.next.store.handles k) ≡ cond (eqb h k && is_ok o.answer) false (is_some (handle_at b.store.handles k)))
  close-held h k = go (held_fault b.store.handles h)
    where
      gone : (s : (h ≡ k) ⊎ (h ≡ k → ⊥)) → is_some (handle_at (closed b.store.handles h) k) ≡ cond (eqb h k && true) false (is_some (handle_at b.store.handles k))
      gone (inl e) =
          ap is_some (ap (handle_at (closed b.store.handles h)) (sym e) ∙ closed_none b.store.handles h snd.handles.numbers_distinct)
          ∙ sym (cond-true (eqb h k && true) false (is_some (handle_at b.store.handles k)) (and_from (eqb h k) true (eq-eqb h k e) refl))
      gone (inr d) =
          ap is_some (found-without-other (numbered k) (numbered h) (λ x t. ne_eqb x.number k (λ r. d (sym (eqb-true x.number h t) ∙ r))) b.store.handles)
          ∙ sym (cond-false (eqb h k && true) false (is_some (handle_at b.store.handles k)) (and_left (eqb h k) true (ne_eqb h k d)))

      go : (f : Option Fault) → (let o = closing b h f in is_some (handle_at o.next.store.handles k) ≡ cond (eqb h k && is_ok o.answer) false (is_some (handle_at b.store.handles k)))
      go (Some g) = unless (eqb h k) (is_some (handle_at b.store.handles k))
      go None = gone (cases_eq h k)

  pub close-stands : (h : ℕ) (p n : List ℕ) → file_stands (close_step b h).next.store.volume p n ≡ file_stands b.store.volume p n
  close-stands h p n = grind arith

-- An open.
module _ (m : Disk) (snd : Sound m) (q n header : List ℕ) where
  pub opened-stands : (p r : List ℕ) → file_stands (opened_ok m q n header).volume p r ≡ cond (bytes_eq q p && bytes_eq n r) true (file_stands m.volume p r)
  opened-stands p r = go (bytes_eq q p && bytes_eq n r) refl (file_at m.volume q n) refl
    where
      own : named q n (new_file q n header m.generations) ≡ true
      own = and_from (bytes_eq q q) (bytes_eq n n) ((bytes_eq-Decides q q).1 refl) ((bytes_eq-Decides n n).1 refl)

      go : (t : Bool) → (bytes_eq q p && bytes_eq n r) ≡ t → (o : Option File) → file_at m.volume q n ≡ o
          → is_some (find (named p r) (cond (is_some o) m.volume.files (m.volume.files ++ (new_file q n header m.generations ∷ [])))) ≡ cond t true (file_stands m.volume p r)
      go true e (Some f) k =
          let s = and_parts (bytes_eq q p) (bytes_eq n r) e in
          let a : p ≡ q = sym (same_bytes q p s.0) in
          let b : r ≡ n = sym (same_bytes n r s.1) in
          let here : file_at m.volume p r ≡ Some f = rw (a, b) k in
          ap is_some here
      go true e None k =
          let s = and_parts (bytes_eq q p) (bytes_eq n r) e in
          let a : p ≡ q = sym (same_bytes q p s.0) in
          let b : r ≡ n = sym (same_bytes n r s.1) in
          let here : find (named p r) (m.volume.files ++ (new_file q n header m.generations ∷ [])) ≡ Some (new_file q n header m.generations) =
          rw (a, b) (found-push-new (named q n) m.volume.files (new_file q n header m.generations) k own) in
          ap is_some here
      go false e (Some f) k = refl
      go false e None k = ap is_some (found_push_other (named p r) m.volume.files (new_file q n header m.generations) (other_name q n p r e (new_file q n header m.generations) own))

  -- no handle has the next number
  pub none-next : (k : ℕ) → m.issued ≡ k → handle_at m.handles k ≡ None
  none-next k e = unissued (λ (x : Handle). x.number) k m.handles (All-weaker _ _ (λ x l. omega arith) m.handles snd.handles.numbers_issued)

  pub opened-held : (k : ℕ) → is_some (handle_at (opened_ok m q n header).handles k) ≡ cond (eqb m.issued k) true (is_some (handle_at m.handles k))
  opened-held k = grind (arith, nat_tests, none-next k, found-push-new (numbered k) m.handles, found_push_other (numbered k) m.handles)

  -- the handle of the file that was named
  pub record Given (f : File) (x : Handle) : Type 0 where
    pub file : file_at (opened_ok m q n header).volume q n ≡ Some f
    pub handle : handle_at (opened_ok m q n header).handles m.issued ≡ Some x
    pub generation : x.generation ≡ f.generation
    pub header-length : x.header ≡ f.header
    pub copied : x.live ≡ f.durable

  pub given : (f : File) × ((x : Handle) × Given f x)
  given = (
    opened_file m.volume q n header m.generations,
    (
      record { number = m.issued; generation = (opened_file m.volume q n header m.generations).generation; header = (opened_file m.volume q n header m.generations).header; live = (opened_file m.volume q n header m.generations).durable },
      record {
        file = go (file_at m.volume q n) refl;
        handle = found-push-new (numbered m.issued) m.handles _ (none-next m.issued refl) (eq-eqb m.issued m.issued refl);
        generation = refl;
        header-length = refl;
        copied = refl;
      },
    ),
  )
    where
      own : named q n (new_file q n header m.generations) ≡ true
      own = and_from (bytes_eq q q) (bytes_eq n n) ((bytes_eq-Decides q q).1 refl) ((bytes_eq-Decides n n).1 refl)

      go : (o : Option File) → file_at m.volume q n ≡ o
          → find (named q n) (cond (is_some o) m.volume.files (m.volume.files ++ (new_file q n header m.generations ∷ []))) ≡ Some (when_some o (λ f. f) (new_file q n header m.generations))
      go (Some f) k = k
      go None k = found-push-new (named q n) m.volume.files (new_file q n header m.generations) k own
