-- The log: what a crash may keep of the calls before it, oldest entry first.
use Rattle.std.specs.Prelude.{ℕ, suc, ◌+◌, Bool, true, false, cond, not, ◌&&◌, List, [], ◌∷◌, ◌++◌, length, Some, None, filter, ◌==◌, nat_le}
use Rattle.std.specs.Option.{is_none}
use Rattle.std.specs.List.{list_all}
use Rattle.draw.specs.Words.{Words, after}
use Rattle.draw.specs.Selections.{selected, select_taken}
use Rattle.draw.specs.declared.select.PartialWriteMode.{PartialWriteMode}
use Rattle.draw.specs.declared.select.PartialWriteMode.TheVariants.{Prefix}
use Rattle.content.specs.Patches.{Patch}
use Rattle.store.specs.Meaning.{Volume}
use Rattle.store.specs.Durable.{crash_written, crash_resized}

-- An entry belongs to a generation. A write has a byte for each place that is still loose, none for one that is not, over
-- its original length, with the mode and the rate of the time of its recording. A marker stands for a sync that was started.
pub data Entry : Type 0 where
  Wrote : (generation offset : ℕ) (loose : Patch) (mode : PartialWriteMode) (rate : ℕ) → Entry
  Resized : (generation len : ℕ) → Entry
  Marked : (generation ticket : ℕ) (success : Bool) → Entry

-- the generation of an entry
abbrev pub generation_in : Entry → ℕ
generation_in (Wrote g o os m r) = g
generation_in (Resized g len) = g
generation_in (Marked g t s) = g

-- the most entries of a log
abbrev pub log_limit : ℕ
log_limit = 32

-- the log has no room for one more
abbrev pub log_full : List Entry → Bool
log_full es = nat_le log_limit (length es)

-- recording appends
abbrev pub recorded : List Entry → Entry → List Entry
recorded es e = es ++ (e ∷ [])

-- whether a patch that begins at an offset has a byte for another offset
abbrev pub covers : ℕ → Patch → ℕ → Bool
covers o [] q = false
covers o (None ∷ os) q = covers (suc o) os q
covers o (Some b ∷ os) q = cond (o == q) true (covers (suc o) os q)

-- a patch that begins at an offset, without the places that pass a test
abbrev pub cleared : (ℕ → Bool) → ℕ → Patch → Patch
cleared hit o [] = []
cleared hit o (b ∷ os) = cond (hit o) None b ∷ cleared hit (suc o) os

-- no byte is left
abbrev pub idle : Patch → Bool
idle os = list_all is_none os

-- The places of a written range are no longer loose in any write of its generation; emptied writes leave.
abbrev pub tightened : ℕ → (ℕ → Bool) → List Entry → List Entry
tightened g hit [] = []
tightened g hit (Wrote h o os m r ∷ es) =
    cond (h == g)
    (cond (idle (cleared hit o os)) (tightened g hit es) (Wrote h o (cleared hit o os) m r ∷ tightened g hit es))
    (Wrote h o os m r ∷ tightened g hit es)
tightened g hit (Resized h len ∷ es) = Resized h len ∷ tightened g hit es
tightened g hit (Marked h t s ∷ es) = Marked h t s ∷ tightened g hit es

-- a resize of a generation is in the log
abbrev pub resizes : ℕ → List Entry → Bool
resizes g [] = false
resizes g (Wrote h o os m r ∷ es) = resizes g es
resizes g (Resized h len ∷ es) = cond (h == g) true (resizes g es)
resizes g (Marked h t s ∷ es) = resizes g es

-- A fixing tightens the older writes. Then, where a resize of that generation is anywhere in the log, before a marker too,
-- the range is appended as a write that a crash keeps for certain. A range without a byte changes nothing.
abbrev pub fixed : List Entry → ℕ → ℕ → Patch → List Entry
fixed es g o f =
    cond (idle f) es
    (tightened g (covers o f) es ++ cond (resizes g es) (Wrote g o f Prefix 65536 ∷ []) [])

-- all entries of a generation go
abbrev pub dropped : List Entry → ℕ → List Entry
dropped es g = filter (λ e. not (generation_in e == g)) es

-- a successful marker of a ticket and a generation stands in these
abbrev pub retires : ℕ → ℕ → List Entry → Bool
retires t g [] = false
retires t g (Wrote h o os m r ∷ es) = retires t g es
retires t g (Resized h len ∷ es) = retires t g es
retires t g (Marked h u s ∷ es) = cond (u == t && (h == g && s)) true (retires t g es)

-- an entry is the marker of a ticket
abbrev pub is_marker : ℕ → Entry → Bool
is_marker t (Wrote h o os m r) = false
is_marker t (Resized h len) = false
is_marker t (Marked h u s) = u == t

-- a settled ticket's marker goes, if it stands, and on success so do earlier entries of its generation
abbrev pub settled : List Entry → ℕ → List Entry
settled [] t = []
settled (e ∷ es) t = cond (is_marker t e) es (cond (retires t (generation_in e) es) (settled es t) (e ∷ settled es t))

-- a successful marker of a generation stands in these
abbrev pub marks : ℕ → List Entry → Bool
marks g [] = false
marks g (Wrote h o os m r ∷ es) = marks g es
marks g (Resized h len ∷ es) = marks g es
marks g (Marked h t s ∷ es) = cond (h == g && s) true (marks g es)

-- the loose bytes that a selection keeps
abbrev pub kept : List Bool → Patch → Patch
kept flags [] = []
kept [] (b ∷ os) = None ∷ kept [] os
kept (t ∷ flags) (b ∷ os) = cond t b None ∷ kept flags os

-- A crash replays the log, oldest entry first, but for the entries before a successful marker of their generation. A write
-- draws one selection over its original length and keeps its selected loose bytes. It gives the volume and the words taken.
abbrev pub replayed : List Entry → Volume → Words → Volume × ℕ
replayed [] v w = (v, 0)
replayed (Wrote g o os m r ∷ es) v w =
    cond (marks g es) (replayed es v w)
    (let n = select_taken m r (length os) w in
    let more = replayed es (crash_written v g o (kept (selected m r (length os) w) os)) (after n w) in
    (more.0, n + more.1))
replayed (Resized g len ∷ es) v w = cond (marks g es) (replayed es v w) (replayed es (crash_resized v g len) w)
replayed (Marked g t s ∷ es) v w = replayed es v w
