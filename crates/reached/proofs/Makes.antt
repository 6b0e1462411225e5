-- An open keeps a store sound.
use Rattle.std.proofs.Common.{◌≡◌, ℕ, ◌+◌, ◌<◌, ◌≤◌, Bool, true, false, cond, not, ◌&&◌, ◌||◌, leb, List, [], ◌∷◌, ◌++◌, length, is_some, Some, None, Ok, Err, Option, sym, refl, ap, subst, arith}
use Rattle.std.specs.List.{AllByRecursion}
use Rattle.std.specs.Str.{bytes_eq}
use Rattle.std.proofs.lemmas.List.{length_push, map-id}
use Rattle.std.proofs.lemmas.Slice.Eq.{bytes_eq-Decides}
use Rattle.std.proofs.ByRecursion.{All-weaker, All-push}
use Rattle.std.proofs.lemmas.Bool.{leb-false, both_ways, and_from}
use Rattle.fault.specs.declared.Fault.TheVariants.{TooLong, TableFull, BadPartition}
use Rattle.name.specs.Names.{name_limit, is_partition}
use Rattle.std.specs.List.{find}
use Rattle.store.specs.declared.file.File.{File}
use Rattle.store.specs.declared.handle.Handle.{Handle}
use Rattle.store.specs.Meaning.{Volume, when_some, when_ok, refused}
use Rattle.store.specs.Durable.{named, file_at, file_stands, partition_stands, partition_limit, file_limit, header_limit, new_file, opened_file}
use Rattle.reached.specs.Sound.{Distinct, Sized, name_of, SoundFiles, SoundHandles, Agree}
use Rattle.reached.proofs.Lists.{all_found, none_passes, distinct_push, distinct-found, found-push, found-more}

-- an open either leaves a store as it is, or met none of its refusals
pub chosen : {A B : Type 0} (long full crowd valid : Bool) (a : A) (new old : B) (P : B → Type 0)
    → (long ≡ false → full ≡ false → crowd ≡ false → valid ≡ true → P new) → P old
    → P (when_ok (refused (cond long (Some TooLong) (cond (full || crowd) (Some TableFull) None)) (cond valid (Ok a) (Err BadPartition))) new old)
chosen true full crowd valid a new old P n o = o
chosen false true crowd valid a new old P n o = o
chosen false false true valid a new old P n o = o
chosen false false false false a new old P n o = o
chosen false false false true a new old P n o = n refl refl refl refl

same_self : (p : List ℕ) → bytes_eq p p ≡ true
same_self p = (bytes_eq-Decides p p).1 refl

other-bytes : (q p : List ℕ) → bytes_eq q p ≡ false → q ≡ p → ⊥
other-bytes q p e k = both_ways (bytes_eq q p) e ((bytes_eq-Decides q p).1 k)

room-left : (t : Bool) (n k : ℕ) → (not t && leb k n) ≡ false → t ≡ false → n < k
room-left true n k e f = absurd (both_ways true f refl)
room-left false n k e f = leb-false k n e

-- a missing partition is made
module _ (v : Volume) (gens : ℕ) (p : List ℕ) (s : SoundFiles v gens) (valid : is_partition p ≡ true)
    (room : (not (partition_stands v p) && leb partition_limit (length v.partitions)) ≡ false) where
  abbrev stood : List (List ℕ) → Volume
  stood ps = record { partitions = ps; files = v.files }

  pub record Made (ps : List (List ℕ)) : Type 0 where
    pub sound : SoundFiles (stood ps) gens
    pub there : partition_stands (stood ps) p ≡ true

  pub partition-made : Made (cond (partition_stands v p) v.partitions (v.partitions ++ (p ∷ [])))
  partition-made = go (find (λ q. bytes_eq q p) v.partitions) refl
    where
      go : (o : Option (List ℕ)) → find (λ q. bytes_eq q p) v.partitions ≡ o → Made (cond (is_some o) v.partitions (v.partitions ++ (p ∷ [])))
      go (Some q) e = record { sound = s; there = ap is_some e }
      go None e =
          let fails = none_passes (λ q. bytes_eq q p) v.partitions e in
          let n = length_push v.partitions p in
          let free : length v.partitions < partition_limit = room-left (partition_stands v p) (length v.partitions) partition_limit room (ap is_some e) in
          record {
            sound = record {
              few_partitions = omega arith;
              few_files = s.few_files;
              partitions_valid = All-push _ v.partitions p s.partitions_valid valid;
              partitions_distinct = subst Distinct (map-id (v.partitions ++ (p ∷ [])))
                  (distinct_push (λ (q : List ℕ). q) v.partitions p (All-weaker _ _ (λ q f. other-bytes q p f) v.partitions fails) (subst Distinct (sym (map-id v.partitions)) s.partitions_distinct));
              files_placed = All-weaker _ _ (λ f h. found-more (λ q. bytes_eq q f.partition) v.partitions (p ∷ []) h) v.files s.files_placed;
              names_short = s.names_short;
              names_distinct = s.names_distinct;
              generations_issued = s.generations_issued;
              generations_distinct = s.generations_distinct;
              files_sized = s.files_sized;
            };
            there = found-push (λ q. bytes_eq q p) v.partitions p (same_self p);
          }

-- a file whose name differs
other_name : (p n : List ℕ) (f : File) → named p n f ≡ false → name_of f ≡ (p, n) → ⊥
other_name p n f e k =
    let a : f.partition ≡ p = ap (λ (x : List ℕ × List ℕ). x.0) k in
    let b : f.name ≡ n = ap (λ (x : List ℕ × List ℕ). x.1) k in
    both_ways (named p n f) e (and_from (bytes_eq f.partition p) (bytes_eq f.name n) ((bytes_eq-Decides f.partition p).1 a) ((bytes_eq-Decides f.name n).1 b))

-- a missing file is made
module _ (v : Volume) (gens : ℕ) (p n header : List ℕ) (s : SoundFiles v gens) (there : partition_stands v p ≡ true)
    (short : length n ≤ name_limit) (small : length header ≤ header_limit)
    (room : (not (file_stands v p n) && leb file_limit (length v.files)) ≡ false) (hs : List Handle) (issued : ℕ) (hsound : SoundHandles hs gens issued) (agree : Agree hs v.files) where
  abbrev holding : List File → Volume
  holding fs = record { partitions = v.partitions; files = fs }

  pub record Held (f : File) (fs : List File) (gens' : ℕ) : Type 0 where
    pub sound : SoundFiles (holding fs) gens'
    pub more : gens ≤ gens'
    pub most : gens' ≤ gens + 1
    pub issued-file : f.generation < gens'
    pub sized : Sized f.header f.durable
    pub old : Agree hs fs
    pub new : AllByRecursion (λ x. f.generation ≡ x.generation → f.header ≡ x.header) fs

  pub file-made : Held (opened_file v p n header gens) (cond (file_stands v p n) v.files (v.files ++ (new_file p n header gens ∷ []))) (cond (file_stands v p n) gens (gens + 1))
  file-made = go (file_at v p n) refl
    where
      go : (o : Option File) → file_at v p n ≡ o
          → Held (when_some o (λ f. f) (new_file p n header gens)) (cond (is_some o) v.files (v.files ++ (new_file p n header gens ∷ []))) (cond (is_some o) gens (gens + 1))
      go (Some f) e = record {
        sound = s;
        more = omega arith;
        most = omega arith;
        issued-file = all_found (λ (x : File). x.generation < gens) (named p n) v.files f e s.generations_issued;
        sized = all_found (λ (x : File). Sized x.header x.durable) (named p n) v.files f e s.files_sized;
        old = agree;
        new = distinct-found (λ (x : File). x.generation) (named p n) (λ x. f.header ≡ x.header) v.files f e s.generations_distinct refl;
      }
      go None e =
          let f = new_file p n header gens in
          let fails = none_passes (named p n) v.files e in
          let k = length_push v.files f in
          let free : length v.files < file_limit = room-left (file_stands v p n) (length v.files) file_limit room (ap is_some e) in
          let own : Sized (length header) header = record { short = small; whole = omega arith; fits = omega arith } in
          record {
            sound = record {
              few_partitions = s.few_partitions;
              few_files = omega arith;
              partitions_valid = s.partitions_valid;
              partitions_distinct = s.partitions_distinct;
              files_placed = All-push _ v.files f s.files_placed there;
              names_short = All-push _ v.files f s.names_short short;
              names_distinct = distinct_push name_of v.files f (All-weaker _ _ (λ x q. other_name p n x q) v.files fails) s.names_distinct;
              generations_issued = All-push _ v.files f (All-weaker _ _ (λ x q. omega arith) v.files s.generations_issued) (omega arith);
              generations_distinct = distinct_push (λ (x : File). x.generation) v.files f (All-weaker _ _ (λ x q d. omega arith) v.files s.generations_issued) s.generations_distinct;
              files_sized = All-push _ v.files f s.files_sized own;
            };
            more = omega arith;
            most = omega arith;
            issued-file = omega arith;
            sized = own;
            old = both hs agree hsound.generations_issued;
            new = All-push _ v.files f (All-weaker _ _ (λ x q d. absurd (omega arith)) v.files s.generations_issued) (λ _. refl);
          }
        where
          both : (xs : List Handle) → Agree xs v.files → AllByRecursion (λ h. h.generation < gens) xs → Agree xs (v.files ++ (new_file p n header gens ∷ []))
          both [] a b = tt
          both (h ∷ xs) a b = (All-push _ v.files (new_file p n header gens) a.0 (λ d. absurd (omega (arith, b.0))), both xs a.1 b.1)
