-- What the bench keeps as a handle's size is the count of its live bytes, while its file stands.
use Rattle.std.proofs.Common.{◌≡◌, ℕ, ◌+◌, ◌<◌, max, Bool, true, false, ◌⊎◌, List, [], ◌∷◌, length, Some, None, Ok, Err, Option, sym, refl, ap, ◌∙◌, subst, inl, inr, arith}
use Rattle.std.specs.Option.{option_map}
use Rattle.std.specs.List.{AllByRecursion}
use Rattle.std.proofs.lemmas.Bool.{eqb-true, ne_eqb, cases_eq}
use Rattle.fault.specs.declared.Fault.{Fault}
use Rattle.fault.specs.declared.Fault.TheVariants.{NoHandle, BlobMissing}
use Rattle.content.specs.Bytes.{written, cut}
use Rattle.content.proofs.Lengths.{length-written, length_cut}
use Rattle.std.specs.List.{find}
use Rattle.store.specs.Tables.{amended}
use Rattle.store.proofs.Keys.{found-amended, found-amended-other}
use Rattle.store.specs.declared.file.File.{File}
use Rattle.store.specs.declared.handle.Handle.{Handle}
use Rattle.store.specs.Meaning.{Disk, Volume, Done, with_durable, with_live, with_volume, when_some, when_ok}
use Rattle.store.specs.Live.{numbered, handle_at, write_fault, resize_fault}
use Rattle.store.specs.Durable.{file_of, durable_written}
use Rattle.store.specs.Whole.{write_answer, wrote, written_live, resize_answer, resized}
use Rattle.steps.specs.State.{Size}
use Rattle.steps.specs.Faulty.{is_size, grown, sized_to, ran_on, ran}
use Rattle.reached.proofs.Lists.{all-amended}
use Rattle.laws.proofs.Places.{none-some}
use Rattle.laws.proofs.Since.{split}
use Rattle.laws.proofs.Files.{changed_in, changed-same, changed-other}
use Rattle.laws.proofs.Writes.{writable}
use Rattle.laws.proofs.Runs.{sync-answer, sync-wrote}

-- each held handle has a size; while its file stands, size and header together are as long as the live bytes
abbrev pub SizesOk : List Handle → Volume → List Size → Type 0
SizesOk hs v ss =
    (n : ℕ) (h : Handle) → handle_at hs n ≡ Some h
    → (s : Size) × (find (is_size n) ss ≡ Some s) × ((f : File) → file_of v h.generation ≡ Some f → s.size + h.header ≡ length h.live)

pub record SizeInv (m : Disk) (ss : List Size) : Type 0 where
  pub sized : SizesOk m.handles m.volume ss
  pub issued : AllByRecursion (λ s. s.handle < m.issued) ss

-- no file comes to stand
abbrev pub NoneNew : Volume → Volume → Type 0
NoneNew v v' = (g : ℕ) (f : File) → file_of v' g ≡ Some f → (e : File) × (file_of v g ≡ Some e)

pub none-new-from : (v v' : Volume) → ((g : ℕ) → file_of v g ≡ None → file_of v' g ≡ None) → NoneNew v v'
none-new-from v v' keeps g f e = go (file_of v g) refl
  where
    go : (o : Option File) → file_of v g ≡ o → (x : File) × (file_of v g ≡ Some x)
    go None q = absurd (none-some (keeps g q) e)
    go (Some x) q = (x, q)

pub none-new-changed : (v : Volume) (g : ℕ) (a : File → List ℕ) → NoneNew v (changed_in v g a)
none-new-changed v g a = none-new-from v (changed_in v g a) (λ k e. split g k (λ x. file_of v x ≡ None → file_of (changed_in v g a) x ≡ None)
    (λ q. changed-same v g a ∙ ap (option_map (λ (f : File). with_durable f (a f))) q) (λ n q. changed-other v g k a (λ s. n (sym s)) ∙ q) e)

pub sizes-fewer : (hs : List Handle) (v v' : Volume) (ss : List Size) → NoneNew v v' → SizesOk hs v ss → SizesOk hs v' ss
sizes-fewer hs v v' ss new ok n h e = let k = ok n h e in (k.0, k.1, λ f q. k.2 (new h.generation f q).0 (new h.generation f q).1)

-- the handle of a number gets other live bytes, and its size follows
module _ (hs : List Handle) (v : Volume) (ss : List Size) (n : ℕ) (x : Handle) (e : handle_at hs n ≡ Some x) (live : Handle → List ℕ) (size : ℕ → ℕ) (ok : SizesOk hs v ss) where
  abbrev relive : List Handle
  relive = amended (numbered n) (λ h. with_live h (live h)) hs

  abbrev resize : List Size
  resize = amended (is_size n) (λ s. record { handle = s.handle; size = size s.size }) ss

  handle-here : handle_at relive n ≡ Some (with_live x (live x))
  handle-here = found-amended (numbered n) (λ h. with_live h (live h)) (λ h. refl) hs ∙ ap (option_map (λ (h : Handle). with_live h (live h))) e

  handle-there : (k : ℕ) → (n ≡ k → ⊥) → handle_at relive k ≡ handle_at hs k
  handle-there k m =
      found-amended-other (numbered k) (numbered n) (λ h. with_live h (live h)) (λ h t. ne_eqb h.number k (λ q. m (sym (eqb-true h.number n t) ∙ q))) (λ h. refl) hs

  size-there : (k : ℕ) → (n ≡ k → ⊥) → find (is_size k) resize ≡ find (is_size k) ss
  size-there k m =
      found-amended-other (is_size k) (is_size n) (λ s. record { handle = s.handle; size = size s.size }) (λ s t. ne_eqb s.handle k (λ q. m (sym (eqb-true s.handle n t) ∙ q))) (λ s. refl) ss

  -- another handle
  other-sized : (k : ℕ) (h : Handle) → (n ≡ k → ⊥) → handle_at relive k ≡ Some h → (zs : List Size) → find (is_size k) zs ≡ find (is_size k) ss
      → (s : Size) × (find (is_size k) zs ≡ Some s) × ((f : File) → file_of v h.generation ≡ Some f → s.size + h.header ≡ length h.live)
  other-sized k h m q zs same = let o = ok k h (sym (handle-there k m) ∙ q) in (o.0, same ∙ o.1, o.2)

  pub sizes-changed : ((s : ℕ) → s + x.header ≡ length x.live → size s + x.header ≡ length (live x)) → SizesOk relive v resize
  sizes-changed new k h q = go (cases_eq n k)
    where
      go : (n ≡ k) ⊎ (n ≡ k → ⊥) → (s : Size) × (find (is_size k) resize ≡ Some s) × ((f : File) → file_of v h.generation ≡ Some f → s.size + h.header ≡ length h.live)
      go (inr m) = other-sized k h m q resize (size-there k m)
      go (inl t) =
          let o = ok n x e in
          let is : with_live x (live x) ≡ h = let y : Some (with_live x (live x)) ≡ Some h = sym handle-here ∙ ap (handle_at relive) t ∙ q in cc in
          let here : find (is_size n) resize ≡ Some (record { handle = o.0.handle; size = size o.0.size }) =
          found-amended (is_size n) (λ s. record { handle = s.handle; size = size s.size }) (λ s. refl) ss ∙ ap (option_map (λ (s : Size). record { handle = s.handle; size = size s.size })) o.1 in (
            record { handle = o.0.handle; size = size o.0.size },
            ap (λ (j : ℕ). find (is_size j) resize) (sym t) ∙ here,
            subst (λ (y : Handle). (f : File) → file_of v y.generation ≡ Some f → size o.0.size + y.header ≡ length y.live) is (λ f z. new o.0.size (o.2 f z)),
          )

  -- its file is missing: the size may stay behind
  pub sizes-stale : file_of v x.generation ≡ None → SizesOk relive v ss
  sizes-stale gone k h q = go (cases_eq n k)
    where
      go : (n ≡ k) ⊎ (n ≡ k → ⊥) → (s : Size) × (find (is_size k) ss ≡ Some s) × ((f : File) → file_of v h.generation ≡ Some f → s.size + h.header ≡ length h.live)
      go (inr m) = other-sized k h m q ss refl
      go (inl t) =
          let o = ok n x e in
          let is : with_live x (live x) ≡ h = let y : Some (with_live x (live x)) ≡ Some h = sym handle-here ∙ ap (handle_at relive) t ∙ q in cc in (
            o.0,
            ap (λ (j : ℕ). find (is_size j) ss) (sym t) ∙ o.1,
            subst (λ (y : Handle). (f : File) → file_of v y.generation ≡ Some f → o.0.size + y.header ≡ length y.live) is (λ f z. absurd (none-some gone z)),
          )

-- handles of sizes stay issued
sized-issued : (k n : ℕ) (size : ℕ → ℕ) (ss : List Size) → AllByRecursion (λ s. s.handle < k) ss → AllByRecursion (λ s. s.handle < k) (amended (is_size n) (λ s. record { handle = s.handle; size = size s.size }) ss)
sized-issued k n size ss a = all-amended (λ (s : Size). s.handle < k) (is_size n) (λ s. record { handle = s.handle; size = size s.size }) ss (λ s e q. q) a

-- A write of the store, plain or SYNC: where it is accepted, the size becomes at least its end.
pub write-sizes : (m : Disk) (n o : ℕ) (bs : List ℕ) (sync : Bool) (ss : List Size) → SizeInv m ss → SizeInv (wrote m n o bs sync) (when_ok (write_answer m n o bs sync) (grown ss n (o + length bs)) ss)
write-sizes m n o bs sync ss i = go (write_fault m.handles n o (length bs)) refl sync
  where
    longer : (x : Handle) (s : ℕ) → s + x.header ≡ length x.live → max s (o + length bs) + x.header ≡ length (written x.live (x.header + o) bs)
    longer x s e = let l = length-written x.live (x.header + o) bs in omega arith

    grows : (x : Handle) → handle_at m.handles n ≡ Some x → SizeInv (written_live m n o bs) (grown ss n (o + length bs))
    grows x e = record {
      sized = sizes-changed m.handles m.volume ss n x e (λ h. written h.live (h.header + o) bs) (λ s. max s (o + length bs)) i.sized (longer x);
      issued = sized-issued m.issued n (λ s. max s (o + length bs)) ss i.issued;
    }

    two : (x : Handle) → handle_at m.handles n ≡ Some x → write_fault m.handles n o (length bs) ≡ None → (f : Option File) → file_of m.volume x.generation ≡ f
        → SizeInv (with_volume (written_live m n o bs) (durable_written m.volume x.generation (x.header + o) bs))
        (when_ok (when_some {A = File} {B = Done} f (λ _. Ok tt) (Err BlobMissing)) (grown ss n (o + length bs)) ss)
    two x e free (Some f) q =
        let g = grows x e in
        record { sized = sizes-fewer _ m.volume (durable_written m.volume x.generation (x.header + o) bs) _ (none-new-changed m.volume x.generation (λ z. written z.durable (x.header + o) bs)) g.sized; issued = g.issued }
    two x e free None q = record {
      sized = sizes-fewer _ m.volume (durable_written m.volume x.generation (x.header + o) bs) _ (none-new-changed m.volume x.generation (λ z. written z.durable (x.header + o) bs))
          (sizes-stale m.handles m.volume ss n x e (λ h. written h.live (h.header + o) bs) (λ s. s) i.sized q);
      issued = i.issued;
    }

    go : (f : Option Fault) → write_fault m.handles n o (length bs) ≡ f → (y : Bool) → SizeInv (wrote m n o bs y) (when_ok (write_answer m n o bs y) (grown ss n (o + length bs)) ss)
    go (Some g) f y = rw f i
    go None f false = let x = writable m.handles n o (length bs) f in rw f (grows x.handle x.found)
    go None f true =
        let w = writable m.handles n o (length bs) f in
        let x = w.handle in
        rw (sync-answer m n o bs x w.found f, sync-wrote m n o bs x w.found f) (two x w.found f (file_of m.volume x.generation) refl)

pub resize-sizes : (m : Disk) (n len : ℕ) (ss : List Size) → SizeInv m ss → SizeInv (resized m n len) (when_ok (resize_answer m n len) (sized_to ss n len) ss)
resize-sizes m n len ss i = go (resize_fault m.handles n len) refl (handle_at m.handles n) refl
  where
    cuts : (x : Handle) (s : ℕ) → s + x.header ≡ length x.live → len + x.header ≡ length (cut (x.header + len) x.live)
    cuts x s e = let l = length_cut (x.header + len) x.live in omega arith

    go : (f : Option Fault) → resize_fault m.handles n len ≡ f → (o : Option Handle) → handle_at m.handles n ≡ o → SizeInv (resized m n len) (when_ok (resize_answer m n len) (sized_to ss n len) ss)
    go (Some g) f o e = rw f i
    go None f None e = let z : None ≡ Some NoHandle = sym f ∙ (rw e) in cc
    go None f (Some x) e = rw f (record {
      sized = sizes-changed m.handles m.volume ss n x e (λ h. cut (h.header + len) h.live) (λ _. len) i.sized (cuts x);
      issued = sized-issued m.issued n (λ _. len) ss i.issued;
    })

-- the runs of a failing write
pub ran-sizes : (rs : List (ℕ × List ℕ)) (n : ℕ) (m : Disk) (ss : List Size) → SizeInv m ss → SizeInv (ran rs n m ss).store (ran rs n m ss).sizes
ran-sizes [] n m ss i = i
ran-sizes (r ∷ rs) n m ss i =
    go (write_answer m n r.0 r.1 true) (write-sizes m n r.0 r.1 true ss i)
    (λ k. ran-sizes rs n (wrote m n r.0 r.1 true) (grown ss n (r.0 + length r.1)) k)
  where
    go : (a : Done) → SizeInv (wrote m n r.0 r.1 true) (when_ok a (grown ss n (r.0 + length r.1)) ss)
        → (SizeInv (wrote m n r.0 r.1 true) (grown ss n (r.0 + length r.1))
        → SizeInv (ran rs n (wrote m n r.0 r.1 true) (grown ss n (r.0 + length r.1))).store (ran rs n (wrote m n r.0 r.1 true) (grown ss n (r.0 + length r.1))).sizes)
        → (let e = ran_on a (wrote m n r.0 r.1 true) (grown ss n (r.0 + length r.1)) ss (ran rs n) in SizeInv e.store e.sizes)
    go (Ok u) k more = more k
    go (Err f) k more = k
