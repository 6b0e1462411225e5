-- A crash, seen from one file: its changes since the last successful marker are replayed, each write with some selection.
use Rattle.std.proofs.Common.{◌≡◌, ℕ, suc, ◌+◌, Bool, true, false, cond, ◌&&◌, eqb, leb, List, [], ◌∷◌, length, Some, None, Option, refl, ap, ◌∙◌}
use Rattle.std.specs.Option.{option_map}
use Rattle.std.proofs.lemmas.Bool.{eqb-true, eq-eqb, cond_both}
use Rattle.draw.specs.Words.{Words, after}
use Rattle.draw.specs.Selections.{prefix, subset, selected, select_taken}
use Rattle.draw.specs.declared.select.PartialWriteMode.{PartialWriteMode}
use Rattle.draw.specs.declared.select.PartialWriteMode.TheVariants.{Prefix, Subset}
use Rattle.content.specs.Bytes.{limit, cut, within}
use Rattle.content.specs.Patches.{Patch, lay}
use Rattle.store.specs.declared.file.File.{File}
use Rattle.store.specs.Meaning.{Volume, Disk, with_durable, with_volume}
use Rattle.store.specs.Durable.{file_of, crash_written, crash_resized}
use Rattle.steps.specs.Log.{Entry, Wrote, Resized, Marked, marks, kept, replayed}
use Rattle.reached.specs.Sound.{Sound}
use Rattle.reached.proofs.Keeps.{crash-write-sound, crash-resize-sound}
use Rattle.laws.proofs.Stands.{Change, Put, Cut, Replays}
use Rattle.laws.proofs.Since.{noted, since_from, since, noted_other, split}
use Rattle.laws.proofs.Files.{changed-same, changed-other}

-- rate 65,536 selects every byte
prefix-all : (os : Patch) (w : Words) → kept (prefix 65536 (length os) w) os ≡ os
prefix-all [] w = refl
prefix-all (o ∷ os) w = ap (λ (r : Patch). o ∷ r) (prefix-all os w)

subset-all : (os : Patch) (w : Words) → kept (subset 65536 (length os) w) os ≡ os
subset-all [] w = refl
subset-all (o ∷ os) w = ap (λ (r : Patch). o ∷ r) (subset-all os w)

all-kept : (m : PartialWriteMode) (r : ℕ) (os : Patch) (w : Words) → eqb r 65536 ≡ true → kept (selected m r (length os) w) os ≡ os
all-kept Prefix r os w e = rw (eqb-true r 65536 e) (prefix-all os w)
all-kept Subset r os w e = rw (eqb-true r 65536 e) (subset-all os w)

pub length-kept : (s : List Bool) (os : Patch) → length (kept s os) ≡ length os
length-kept s [] = refl
length-kept [] (o ∷ os) = ap suc (length-kept [] os)
length-kept (t ∷ s) (o ∷ os) = ap suc (length-kept s os)

-- before the last successful marker the file is as it was
abbrev Now : Bool → List Change → File → Option File → Type 0
Now true acc f n = n ≡ Some f
Now false acc f n = (ys : List ℕ) × (n ≡ Some (with_durable f ys)) × Replays acc f.durable ys

abbrev pub Seen : ℕ → File → List Change → Volume → Type 0
Seen g f w v = (ys : List ℕ) × (file_of v g ≡ Some (with_durable f ys)) × Replays w f.durable ys

abbrev Rest : ℕ → File → List Entry → Type 0
Rest g f es = (v : Volume) (w : Words) (acc : List Change) → Now (marks g es) acc f (file_of v g) → Seen g f (since_from g f.header acc es) (replayed es v w).0

-- the two ways of a replay, as one
as_one : (t : Bool) (es : List Entry) (v u : Volume) (w x : Words) (n : ℕ)
    → (cond t (replayed es v w) ((replayed es u x).0, n + (replayed es u x).1)).0 ≡ (replayed es (cond t v u) (cond t w x)).0
as_one true es v u w x n = refl
as_one false es v u w x n = refl

as-one-resize : (t : Bool) (es : List Entry) (v u : Volume) (w : Words) → (cond t (replayed es v w) (replayed es u w)).0 ≡ (replayed es (cond t v u) w).0
as-one-resize true es v u w = refl
as-one-resize false es v u w = refl

now-other : (t u : Bool) (g : ℕ) (f : File) (acc : List Change) (v v' : Volume) → file_of v' g ≡ file_of v g → Now t acc f (file_of v g) → Now t acc f (file_of (cond u v v') g)
now-other t true g f acc v v' e k = k
now-other t false g f acc v v' e k = rw e k

now-change : (t : Bool) (g : ℕ) (f : File) (acc more : List Change) (v v' : Volume)
    → ((ys : List ℕ) → file_of v g ≡ Some (with_durable f ys) → Replays acc f.durable ys → (zs : List ℕ) × (file_of v' g ≡ Some (with_durable f zs)) × Replays more f.durable zs)
    → Now t acc f (file_of v g) → Now t more f (file_of (cond t v v') g)
now-change true g f acc more v v' c k = k
now-change false g f acc more v v' c k = c k.0 k.1 k.2

-- what one entry of the generation does to its file
write-change : (g : ℕ) (f : File) (acc : List Change) (v : Volume) (o : ℕ) (os : Patch) (m : PartialWriteMode) (r : ℕ) (w : Words) (ys : List ℕ)
    → file_of v g ≡ Some (with_durable f ys) → Replays acc f.durable ys
    → (zs : List ℕ) × (file_of (crash_written v g o (kept (selected m r (length os) w) os)) g ≡ Some (with_durable f zs)) × Replays (noted g f.header acc (Wrote g o os m r)) f.durable zs
write-change g f acc v o os m r w ys e k =
    let s = selected m r (length os) w in
    let d = f.header in
    let a : File → List ℕ = λ x. within (x.header + o + length (kept s os)) (lay x.durable (x.header + o) (kept s os)) x.durable in
    let file : file_of (crash_written v g o (kept s os)) g ≡ Some (with_durable f (within (d + o + length (kept s os)) (lay ys (d + o) (kept s os)) ys)) =
    changed-same v g a ∙ ap (λ (x : Option File). option_map (λ (y : File). with_durable y (a y)) x) e in
    (within (d + o + length (kept s os)) (lay ys (d + o) (kept s os)) ys, file, rw (length-kept s os, eq-eqb g g refl) (go (leb (d + o + length os) limit)))
  where
    go : (t : Bool) → Replays (cond t (Put (f.header + o) os (eqb r 65536) ∷ acc) acc) f.durable (cond t (lay ys (f.header + o) (kept (selected m r (length os) w) os)) ys)
    go true = (ys, k, (selected m r (length os) w, refl, all-kept m r os w))
    go false = k

resize-change : (g : ℕ) (f : File) (acc : List Change) (v : Volume) (len : ℕ) (ys : List ℕ) → file_of v g ≡ Some (with_durable f ys) → Replays acc f.durable ys
    → (zs : List ℕ) × (file_of (crash_resized v g len) g ≡ Some (with_durable f zs)) × Replays (noted g f.header acc (Resized g len)) f.durable zs
resize-change g f acc v len ys e k =
    let d = f.header in
    let a : File → List ℕ = λ x. within (x.header + len) (cut (x.header + len) x.durable) x.durable in
    let file : file_of (crash_resized v g len) g ≡ Some (with_durable f (within (d + len) (cut (d + len) ys) ys)) =
    changed-same v g a ∙ ap (λ (x : Option File). option_map (λ (y : File). with_durable y (a y)) x) e in
    (within (d + len) (cut (d + len) ys) ys, file, rw (eq-eqb g g refl) (go (leb (d + len) limit)))
  where
    go : (t : Bool) → Replays (cond t (Cut (f.header + len) ∷ acc) acc) f.durable (cond t (cut (f.header + len) ys) ys)
    go true = (ys, k, refl)
    go false = k

seen-write : (g : ℕ) (f : File) (h o : ℕ) (os : Patch) (m : PartialWriteMode) (r : ℕ) (es : List Entry) → Rest g f es → Rest g f (Wrote h o os m r ∷ es)
seen-write g f h o os m r es ih v w acc =
    split g h (λ x. Now (marks g es) acc f (file_of v g) → Seen g f (since_from g f.header (noted g f.header acc (Wrote x o os m r)) es) (replayed (Wrote x o os m r ∷ es) v w).0)
    (λ k. rw (as_one (marks g es) es v (crash_written v g o (kept (selected m r (length os) w) os)) w (after (select_taken m r (length os) w) w) (select_taken m r (length os) w))
    (ih _ _ (noted g f.header acc (Wrote g o os m r))
    (now-change (marks g es) g f acc (noted g f.header acc (Wrote g o os m r)) v _ (write-change g f acc v o os m r w) k)))
    (λ n k. rw (
      as_one (marks h es) es v (crash_written v h o (kept (selected m r (length os) w) os)) w (after (select_taken m r (length os) w) w) (select_taken m r (length os) w),
      noted_other g f.header acc (Wrote h o os m r) n,
    )
    (ih _ _ acc (now-other (marks g es) (marks h es) g f acc v _ (changed-other v h g _ n) k)))

seen-resize : (g : ℕ) (f : File) (h len : ℕ) (es : List Entry) → Rest g f es → Rest g f (Resized h len ∷ es)
seen-resize g f h len es ih v w acc =
    split g h (λ x. Now (marks g es) acc f (file_of v g) → Seen g f (since_from g f.header (noted g f.header acc (Resized x len)) es) (replayed (Resized x len ∷ es) v w).0)
    (λ k. rw (as-one-resize (marks g es) es v (crash_resized v g len) w)
    (ih _ w (noted g f.header acc (Resized g len)) (now-change (marks g es) g f acc (noted g f.header acc (Resized g len)) v _ (resize-change g f acc v len) k)))
    (λ n k. rw (as-one-resize (marks h es) es v (crash_resized v h len) w, noted_other g f.header acc (Resized h len) n)
    (ih _ w acc (now-other (marks g es) (marks h es) g f acc v _ (changed-other v h g _ n) k)))

seen-mark : (g : ℕ) (f : File) (h t : ℕ) (s : Bool) (es : List Entry) → Rest g f es → Rest g f (Marked h t s ∷ es)
seen-mark g f h t s es ih v w acc = go (eqb h g && s)
  where
    begun : (m : Bool) → file_of v g ≡ Some f → Now m [] f (file_of v g)
    begun true e = e
    begun false e = (f.durable, e, refl)

    go : (u : Bool) → Now (cond u true (marks g es)) acc f (file_of v g) → Seen g f (since_from g f.header (cond u [] acc) es) (replayed es v w).0
    go true k = ih v w [] (begun (marks g es) k)
    go false k = ih v w acc k

seen : (g : ℕ) (f : File) (es : List Entry) → Rest g f es
seen g f [] = λ v w acc k. k
seen g f (Wrote h o os m r ∷ es) = seen-write g f h o os m r es (seen g f es)
seen g f (Resized h len ∷ es) = seen-resize g f h len es (seen g f es)
seen g f (Marked h t s ∷ es) = seen-mark g f h t s es (seen g f es)

pub crash-seen : (g : ℕ) (f : File) (es : List Entry) (v : Volume) (w : Words) → file_of v g ≡ Some f → Seen g f (since g f.header es) (replayed es v w).0
crash-seen g f es v w e = seen g f es v w [] (begun (marks g es))
  where
    begun : (m : Bool) → Now m [] f (file_of v g)
    begun true = e
    begun false = (f.durable, e, refl)

-- no file comes to be
none-changed : (g h : ℕ) (v v' : Volume) (a : File → File) → file_of v' h ≡ option_map a (file_of v h) → ((h ≡ g → ⊥) → file_of v' g ≡ file_of v g) → file_of v g ≡ None → file_of v' g ≡ None
none-changed g h v v' a same other e =
    split g h (λ x. (file_of v' x ≡ option_map a (file_of v x)) → ((x ≡ g → ⊥) → file_of v' g ≡ file_of v g) → file_of v' g ≡ None)
    (λ s o. s ∙ ap (option_map a) e) (λ n s o. o n ∙ e) same other

none-either : (g : ℕ) (t : Bool) (v v' : Volume) → file_of v g ≡ None → file_of v' g ≡ None → file_of (cond t v v') g ≡ None
none-either g true v v' a b = a
none-either g false v v' a b = b

pub crash-none : (g : ℕ) (es : List Entry) (v : Volume) (w : Words) → file_of v g ≡ None → file_of (replayed es v w).0 g ≡ None
crash-none g [] v w e = e
crash-none g (Wrote h o os m r ∷ es) v w e =
    let v' = crash_written v h o (kept (selected m r (length os) w) os) in
    rw (as_one (marks h es) es v v' w (after (select_taken m r (length os) w) w) (select_taken m r (length os) w))
    (crash-none g es (cond (marks h es) v v') (cond (marks h es) w (after (select_taken m r (length os) w) w))
    (none-either g (marks h es) v v' e (none-changed g h v v' _ (changed-same v h _) (λ n. changed-other v h g _ n) e)))
crash-none g (Resized h len ∷ es) v w e =
    rw (as-one-resize (marks h es) es v (crash_resized v h len) w)
    (crash-none g es (cond (marks h es) v (crash_resized v h len)) w
    (none-either g (marks h es) v (crash_resized v h len) e (none-changed g h v (crash_resized v h len) _ (changed-same v h _) (λ n. changed-other v h g _ n) e)))
crash-none g (Marked h t s ∷ es) v w e = crash-none g es v w e

-- a crash keeps a store sound
pub crash-sound : (m : Disk) (es : List Entry) (w : Words) → Sound m → Sound (with_volume m (replayed es m.volume w).0)
crash-sound m [] w s = s
crash-sound m (Wrote h o os k r ∷ es) w s =
    let v = crash_written m.volume h o (kept (selected k r (length os) w) os) in
    let n = select_taken k r (length os) w in
    cond_both (marks h es) (replayed es m.volume w) ((replayed es v (after n w)).0, n + (replayed es v (after n w)).1) (λ u. Sound (with_volume m u.0))
    (λ _. crash-sound m es w s) (λ _. crash-sound (with_volume m v) es (after n w) (crash-write-sound m h o (kept (selected k r (length os) w) os) s))
crash-sound m (Resized h len ∷ es) w s =
    cond_both (marks h es) (replayed es m.volume w) (replayed es (crash_resized m.volume h len) w) (λ u. Sound (with_volume m u.0))
    (λ _. crash-sound m es w s) (λ _. crash-sound (with_volume m (crash_resized m.volume h len)) es w (crash-resize-sound m h len s))
crash-sound m (Marked h t s ∷ es) w q = crash-sound m es w q
