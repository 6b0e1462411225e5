-- What the place of a partition or a file, or its fault, says of a call.
use Rattle.std.proofs.Common.{◌≡◌, ℕ, Bool, true, false, List, is_some, Some, None, Ok, Err, Option, Result, sym, refl, ap, ◌∙◌, arith}
use Rattle.std.specs.Option.{ok_or}
use Rattle.std.specs.Str.{bytes_eq}
use Rattle.std.proofs.lemmas.Bool.{cond-true, cond-false, both_ways}
use Rattle.fault.specs.declared.Fault.{Fault}
use Rattle.fault.specs.declared.Fault.TheVariants.{BadPartition, PartitionMissing, BlobMissing}
use Rattle.name.specs.Names.{is_partition}
use Rattle.std.specs.List.{position}
use Rattle.store.proofs.Finds.{position-none, position_found}
use Rattle.store.specs.declared.file.File.{File}
use Rattle.store.specs.Meaning.{Volume, when_some}
use Rattle.store.specs.Durable.{partition_stands, file_at, named, in_standing, of_file}
use Rattle.memory.specs.Seeks.{partition_place, file_place}

some-ok : {A : Type 0} (o : Option A) (f : Fault) (i : A) → ok_or o f ≡ Ok i → Some i ≡ o
some-ok None f i h = absurd (let z : ◌≡◌ {A = ℕ} 0 1 = cc in omega arith)
some-ok (Some x) f i h = cc

none-err : {A : Type 0} (o : Option A) (f e : Fault) → ok_or o f ≡ Err e → (None ≡ o) × (f ≡ e)
none-err None f e h = (refl, cc)
none-err (Some x) f e h = absurd (let z : ◌≡◌ {A = ℕ} 0 1 = cc in omega arith)

err-same : {A : Type 0} (e f : Fault) → ◌≡◌ {A = Result A Fault} (Err e) (Err f) → e ≡ f
err-same e f h = cc

module _ (v : Volume) (p : List ℕ) where
  abbrev place : Option ℕ
  place = position (λ q. bytes_eq q p) v.partitions

  stands-is : is_some place ≡ partition_stands v p
  stands-is = position_found (λ q. bytes_eq q p) v.partitions

  at-standing : {A : Type 0} (r : Result A Fault) → is_partition p ≡ true → partition_stands v p ≡ true → in_standing v p r ≡ r
  at-standing r s t = cond-true _ _ _ s ∙ cond-true _ _ _ t

  at-missing : {A : Type 0} (r : Result A Fault) → is_partition p ≡ true → partition_stands v p ≡ false → in_standing v p r ≡ Err PartitionMissing
  at-missing r s t = cond-true _ _ _ s ∙ cond-false _ _ _ t

  at-bad : {A : Type 0} (r : Result A Fault) → is_partition p ≡ false → in_standing v p r ≡ Err BadPartition
  at-bad r s = cond-false _ _ _ s

  -- a call that meets nothing at a place goes on
  passes : {B : Type 0} (o : Option B) (f : Fault) (i : B) → in_standing v p (ok_or o f) ≡ Ok i → (Some i ≡ o) × ((A : Type 0) (r : Result A Fault) → in_standing v p r ≡ r)
  passes {B} o f i h = go (is_partition p) (partition_stands v p) refl refl
    where
      go : (s t : Bool) → is_partition p ≡ s → partition_stands v p ≡ t → (Some i ≡ o) × ((A : Type 0) (r : Result A Fault) → in_standing v p r ≡ r)
      go true true s t = (some-ok o f i (sym (at-standing (ok_or o f) s t) ∙ h), λ A r. at-standing r s t)
      go true false s t = absurd (let k : Err PartitionMissing ≡ Ok i = sym (at-missing (ok_or o f) s t) ∙ h in let z : ◌≡◌ {A = ℕ} 0 1 = cc in omega arith)
      go false t s _ = absurd (let k : Err BadPartition ≡ Ok i = sym (at-bad (ok_or o f) s) ∙ h in let z : ◌≡◌ {A = ℕ} 0 1 = cc in omega arith)

  -- and one that meets a fault there meets it
  stops : {B : Type 0} (o : Option B) (f e : Fault) → in_standing v p (ok_or o f) ≡ Err e → {A : Type 0} (r : Result A Fault)
      → (partition_stands v p ≡ true → None ≡ o → r ≡ Err f) → in_standing v p r ≡ Err e
  stops {B} o f e h {A} r k = go (is_partition p) (partition_stands v p) refl refl
    where
      go : (s t : Bool) → is_partition p ≡ s → partition_stands v p ≡ t → in_standing v p r ≡ Err e
      go true true s t =
          let n = none-err o f e (sym (at-standing (ok_or o f) s t) ∙ h) in
          at-standing r s t ∙ k t n.0 ∙ ap Err n.1
      go true false s t = at-missing r s t ∙ ap Err (err-same PartitionMissing e (sym (at-missing (ok_or o f) s t) ∙ h))
      go false t s _ = at-bad r s ∙ ap Err (err-same BadPartition e (sym (at-bad (ok_or o f) s) ∙ h))

  pub standing : (i : ℕ) → partition_place v p ≡ Ok i → {A : Type 0} (r : Result A Fault) → in_standing v p r ≡ r
  standing i h {A} r = (passes place PartitionMissing i h).1 A r

  pub standing_place : (i : ℕ) → partition_place v p ≡ Ok i → Some i ≡ position (λ q. bytes_eq q p) v.partitions
  standing_place i h = (passes place PartitionMissing i h).0

  pub missing : (e : Fault) → partition_place v p ≡ Err e → {A : Type 0} (r : Result A Fault) → in_standing v p r ≡ Err e
  missing e h r =
      stops place PartitionMissing e h r (λ t n. absurd (both_ways (is_some place) (ap is_some (sym n)) (stands-is ∙ t)))

  pub file_found : (n : List ℕ) (i : ℕ) → file_place v p n ≡ Ok i → Some i ≡ position (named p n) v.files
  file_found n i h = (passes (position (named p n) v.files) BlobMissing i h).0

  pub file_standing : (n : List ℕ) (i : ℕ) → file_place v p n ≡ Ok i → {A : Type 0} (r : Result A Fault) → in_standing v p r ≡ r
  file_standing n i h {A} r = (passes (position (named p n) v.files) BlobMissing i h).1 A r

  pub file_missing : (n : List ℕ) (e : Fault) → file_place v p n ≡ Err e → {A : Type 0} (a : File → A) → of_file v p n a ≡ Err e
  file_missing n e h {A} a =
      stops (position (named p n) v.files) BlobMissing e h (when_some (file_at v p n) (λ f. Ok (a f)) (Err BlobMissing))
      (λ t k. ap (λ (o : Option File). when_some o (λ f. Ok (a f)) (Err BlobMissing)) (position-none (named p n) v.files k))

  pub file_ok : (n : List ℕ) (i : ℕ) → file_place v p n ≡ Ok i → (f : File) → file_at v p n ≡ Some f → {A : Type 0} (a : File → A) → of_file v p n a ≡ Ok (a f)
  file_ok n i h f e {A} a =
      file_standing n i h (when_some (file_at v p n) (λ f. Ok (a f)) (Err BlobMissing)) ∙ ap (λ (o : Option File). when_some o (λ f. Ok (a f)) (Err BlobMissing)) e
