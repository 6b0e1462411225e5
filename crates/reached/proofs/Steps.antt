-- Writes, resizes, syncs, closes, removals and restarts keep a store sound.
use Rattle.std.proofs.Common.{◌≡◌, ℕ, ◌+◌, ◌≤◌, Bool, true, false, cond, not, List, length, Some, None, Ok, Err, filter, Option, Result, sym, refl, subst, arith}
use Rattle.std.specs.List.{AllByRecursion}
use Rattle.std.specs.Str.{bytes_eq}
use Rattle.std.proofs.ByRecursion.{All-weaker, all_kept_by}
use Rattle.std.proofs.lemmas.List.{map-id}
use Rattle.std.proofs.lemmas.List.Sums.{length-filter, count_by-le-length}
use Rattle.std.proofs.lemmas.Bool.{eqb-true, not-true}
use Rattle.fault.specs.declared.Fault.{Fault}
use Rattle.content.specs.Bytes.{limit, written, cut}
use Rattle.std.specs.List.{find}
use Rattle.store.specs.Tables.{amended, without}
use Rattle.store.specs.declared.file.File.{File}
use Rattle.store.specs.declared.handle.Handle.{Handle}
use Rattle.store.specs.Meaning.{Volume, Disk, with_files, with_handles, with_volume, when_some, when_ok, refused, empty_disk}
use Rattle.store.specs.Live.{numbered, handle_at, write_fault, resize_fault, live_resized}
use Rattle.store.specs.Durable.{generated, named, in_partition, removed, removed_partition, remove_answer, remove_partition_answer, durable_written, durable_replaced}
use Rattle.store.proofs.Faults.{write-fits, resize-fits}
use Rattle.store.specs.Whole.{wrote, written_live, written_durable, resized, synced, closed_disk, restarted}
use Rattle.reached.specs.Sound.{Distinct, Sized, name_of, SoundFiles, Agree, Sound}
use Rattle.reached.proofs.Lists.{all_without, all_found, found-passes, distinct_without, distinct-kept, length_without, all-kept, found-without, same-other}
use Rattle.reached.proofs.Keeps.{files-changed, agree-changed, handles-changed, agree-turned, sized-written, sized-cut}

module _ (m : Disk) (s : Sound m) (n offset : ℕ) (bs : List ℕ) (none : None ≡ write_fault m.handles n offset (length bs)) where
  ends : (h : Handle) → handle_at m.handles n ≡ Some h → h.header + offset + length bs ≤ limit
  ends h e = omega (arith, write-fits m.handles n offset (length bs) h e (sym none))

  abbrev change : Handle → List ℕ
  change h = written h.live (h.header + offset) bs

  keeps : (h : Handle) → find (numbered n) m.handles ≡ Some h → Sized h.header h.live → Sized h.header (change h)
  keeps h e q = sized-written h.header (h.header + offset) h.live bs (ends h e) q

  live-sound : Sound (written_live m n offset bs)
  live-sound = record {
    files = s.files;
    handles = handles-changed m.handles m.generations m.issued n change s.handles keeps;
    headers = agree-turned m.handles m.generations m.issued n change s.handles keeps m.volume.files s.headers;
    few_generations = s.few_generations;
    few_issued = s.few_issued;
  }

  durable-sound : (o : Option Handle) → handle_at m.handles n ≡ o
      → Sound (with_volume (written_live m n offset bs) (when_some o (λ h. durable_written m.volume h.generation (h.header + offset) bs) m.volume))
  durable-sound None e = live-sound
  durable-sound (Some h) e =
      let alter : File → List ℕ = λ f. written f.durable (h.header + offset) bs in
      let kept : (f : File) → find (generated h.generation) m.volume.files ≡ Some f → Sized f.header f.durable → Sized f.header (alter f) =
      λ f _ q. sized-written f.header (h.header + offset) f.durable bs (ends h e) q in
      record {
        files = files-changed m.volume m.generations h.generation alter s.files kept;
        handles = live-sound.handles;
        headers = agree-changed m.volume m.generations h.generation alter s.files kept (amended (numbered n) _ m.handles) live-sound.headers;
        few_generations = s.few_generations;
        few_issued = s.few_issued;
      }

pub write-sound : (m : Disk) (n offset : ℕ) (bs : List ℕ) (sync : Bool) → Sound m → Sound (wrote m n offset bs sync)
write-sound m n offset bs sync s = go (write_fault m.handles n offset (length bs)) refl sync
  where
    go : (o : Option Fault) → write_fault m.handles n offset (length bs) ≡ o → (y : Bool)
        → Sound (when_some o (λ _. m) (cond y (with_volume (written_live m n offset bs) (written_durable m n offset bs)) (written_live m n offset bs)))
    go (Some f) e y = s
    go None e true = durable-sound m s n offset bs (sym e) (handle_at m.handles n) refl
    go None e false = live-sound m s n offset bs (sym e)

pub resize-sound : (m : Disk) (n len : ℕ) → Sound m → Sound (resized m n len)
resize-sound m n len s = go (resize_fault m.handles n len) refl
  where
    go : (o : Option Fault) → resize_fault m.handles n len ≡ o → Sound (when_ok (refused {A = Unit {0}} o (Ok tt)) (with_handles m (live_resized m.handles n len)) m)
    go (Some f) e = s
    go None e =
        let alter : Handle → List ℕ = λ h. cut (h.header + len) h.live in
        let keeps : (h : Handle) → find (numbered n) m.handles ≡ Some h → Sized h.header h.live → Sized h.header (alter h) =
        λ h at q. sized-cut h.header (h.header + len) h.live (omega arith)
        (omega (arith, resize-fits m.handles n len h at e)) q in
        record {
          files = s.files;
          handles = handles-changed m.handles m.generations m.issued n alter s.handles keeps;
          headers = agree-turned m.handles m.generations m.issued n alter s.handles keeps m.volume.files s.headers;
          few_generations = s.few_generations;
          few_issued = s.few_issued;
        }

pub sync-sound : (m : Disk) (n : ℕ) → Sound m → Sound (synced m n)
sync-sound m n s = go (handle_at m.handles n) refl
  where
    go : (o : Option Handle) → handle_at m.handles n ≡ o → Sound (with_volume m (when_some o (λ h. durable_replaced m.volume h.generation h.live) m.volume))
    go None e = s
    go (Some h) e =
        let alter : File → List ℕ = λ f. h.live in
        let agrees = all_found (λ (x : Handle). AllByRecursion (λ (f : File). x.generation ≡ f.generation → x.header ≡ f.header) m.volume.files) (numbered n) m.handles h e s.headers in
        let own = all_found (λ (x : Handle). Sized x.header x.live) (numbered n) m.handles h e s.handles.handles_sized in
        let keeps : (f : File) → find (generated h.generation) m.volume.files ≡ Some f → Sized f.header f.durable → Sized f.header (alter f) =
        λ f at q. subst (λ d. Sized d h.live)
        (all_found (λ (x : File). h.generation ≡ x.generation → h.header ≡ x.header) (generated h.generation) m.volume.files f at agrees
        (sym (eqb-true f.generation h.generation (found-passes (generated h.generation) m.volume.files f at)))) own in
        record {
          files = files-changed m.volume m.generations h.generation alter s.files keeps;
          handles = s.handles;
          headers = agree-changed m.volume m.generations h.generation alter s.files keeps m.handles s.headers;
          few_generations = s.few_generations;
          few_issued = s.few_issued;
        }

pub close-sound : (m : Disk) (n : ℕ) → Sound m → Sound (closed_disk m n)
close-sound m n s = record {
  files = s.files;
  handles = record {
    few_handles = omega (arith, s.handles.few_handles, length_without (numbered n) m.handles);
    numbers_issued = all_without _ (numbered n) m.handles s.handles.numbers_issued;
    numbers_distinct = distinct_without (λ (h : Handle). h.number) (numbered n) m.handles s.handles.numbers_distinct;
    generations_issued = all_without _ (numbered n) m.handles s.handles.generations_issued;
    handles_sized = all_without _ (numbered n) m.handles s.handles.handles_sized;
  };
  headers = all_without _ (numbered n) m.handles s.headers;
  few_generations = s.few_generations;
  few_issued = s.few_issued;
}

pub restart-sound : (m : Disk) → Sound m → Sound (restarted m)
restart-sound m s = record {
  files = s.files;
  handles = record { few_handles = omega arith; numbers_issued = tt; numbers_distinct = tt; generations_issued = tt; handles_sized = tt };
  headers = tt;
  few_generations = s.few_generations;
  few_issued = s.few_issued;
}

pub empty-sound : Sound empty_disk
empty-sound = record {
  files = record { few_partitions = omega arith; few_files = omega arith; partitions_valid = tt; partitions_distinct = tt; files_placed = tt; names_short = tt; names_distinct = tt; generations_issued = tt; generations_distinct = tt; files_sized = tt };
  handles = record { few_handles = omega arith; numbers_issued = tt; numbers_distinct = tt; generations_issued = tt; handles_sized = tt };
  headers = tt;
  few_generations = omega arith;
  few_issued = omega arith;
}

-- what holds of the new and of the old holds of what a call leaves
ok-both : {A B : Type 0} (r : Result A Fault) (new old : B) (P : B → Type 0) → P new → P old → P (when_ok r new old)
ok-both (Ok a) new old P n o = n
ok-both (Err f) new old P n o = o

volume-sound : (m : Disk) (v : Volume) → Sound m → SoundFiles v m.generations → Agree m.handles v.files → Sound (with_volume m v)
volume-sound m v s f a = record { files = f; handles = s.handles; headers = a; few_generations = s.few_generations; few_issued = s.few_issued }

pub remove-sound : (m : Disk) (p n : List ℕ) → Sound m → Sound (with_volume m (removed m.volume p n))
remove-sound m p n s =
    let fs = m.volume.files in
    let f = s.files in
    ok-both (remove_answer m.volume p n) (with_files m.volume (without (named p n) fs)) m.volume (λ v. Sound (with_volume m v))
    (volume-sound m (with_files m.volume (without (named p n) fs)) s
    (record {
      few_partitions = f.few_partitions;
      few_files = omega (arith, f.few_files, length_without (named p n) fs);
      partitions_valid = f.partitions_valid;
      partitions_distinct = f.partitions_distinct;
      files_placed = all_without _ (named p n) fs f.files_placed;
      names_short = all_without _ (named p n) fs f.names_short;
      names_distinct = distinct_without name_of (named p n) fs f.names_distinct;
      generations_issued = all_without _ (named p n) fs f.generations_issued;
      generations_distinct = distinct_without (λ (x : File). x.generation) (named p n) fs f.generations_distinct;
      files_sized = all_without _ (named p n) fs f.files_sized;
    })
    (All-weaker _ _ (λ h. all_without _ (named p n) fs) m.handles s.headers))
    s

pub remove-partition-sound : (m : Disk) (p : List ℕ) → Sound m → Sound (with_volume m (removed_partition m.volume p))
remove-partition-sound m p s =
    let fs = m.volume.files in
    let ps = m.volume.partitions in
    let f = s.files in
    let stays : File → Bool = λ x. not (in_partition p x) in
    let gone : List ℕ → Bool = λ q. bytes_eq q p in
    let new : Volume = record { partitions = without gone ps; files = filter stays fs } in
    ok-both (remove_partition_answer m.volume p) new m.volume (λ v. Sound (with_volume m v))
    (volume-sound m new s
    (record {
      few_partitions = omega (arith, f.few_partitions, length_without gone ps);
      few_files = omega (arith, f.few_files, length-filter stays fs, count_by-le-length stays fs);
      partitions_valid = all_without _ gone ps f.partitions_valid;
      partitions_distinct = subst Distinct (map-id (without gone ps)) (distinct_without (λ (q : List ℕ). q) gone ps (subst Distinct (sym (map-id ps)) f.partitions_distinct));
      files_placed = all-kept _ _ stays
          (λ x t q. found-without (λ r. bytes_eq r x.partition) gone ps
          (λ r e. same-other r x.partition p e (not-true (bytes_eq x.partition p) t)) q) fs f.files_placed;
      names_short = all_kept_by stays _ fs f.names_short;
      names_distinct = distinct-kept name_of stays fs f.names_distinct;
      generations_issued = all_kept_by stays _ fs f.generations_issued;
      generations_distinct = distinct-kept (λ (x : File). x.generation) stays fs f.generations_distinct;
      files_sized = all_kept_by stays _ fs f.files_sized;
    })
    (All-weaker _ _ (λ h. all_kept_by stays _ fs) m.handles s.headers))
    s
