-- Three wrong logs, each with a list of calls. The calls go by the right steps up to the crash; the wrong log is what the
-- crash would replay. By two of them it leaves what the crash promise rules out, by the third another file than the right one.
use Rattle.std.specs.Prelude.{◌≡◌, ℕ, true, false, cond, List, [], ◌∷◌, ◌++◌, map, drop, Some, None}
use Rattle.draw.specs.Sources.{tape_words}
use Rattle.draw.specs.declared.select.PartialWriteMode.{PartialWriteMode}
use Rattle.draw.specs.declared.select.PartialWriteMode.TheVariants.{Prefix}
use Rattle.content.specs.Patches.{Patch}
use Rattle.steps.specs.Log.{Entry, Wrote, Resized, Marked, covers, tightened, resizes, replayed}
use Rattle.steps.specs.State.{Faulty}
use Rattle.steps.specs.Faulty.{runs}
use Rattle.steps.specs.Cases.{write_rates, resize_rates}
use Rattle.steps.specs.Calls.{Call, Open, Write, Resize, Configure}
use Rattle.laws.specs.Pages.{Cell, Allowed}
use Rattle.laws.specs.Promises.{ledger, left}

-- a fixing that leaves the places of its range loose in older entries
abbrev pub fixed_over : List Entry → ℕ → ℕ → Patch → List Entry
fixed_over es g o f = es ++ cond (resizes g es) (Wrote g o f Prefix 65536 ∷ []) []

-- a fixing that is not appended where a resize was recorded before it
abbrev pub fixed_bare : List Entry → ℕ → ℕ → Patch → List Entry
fixed_bare es g o f = tightened g (covers o f) es

-- each piece that is left of a write as an entry of its own, so that each draws a selection
abbrev pub pieces : ℕ → PartialWriteMode → ℕ → List (ℕ × List ℕ) → List Entry
pieces g m r [] = []
pieces g m r (x ∷ xs) = Wrote g x.0 (map Some x.1) m r ∷ pieces g m r xs

-- all writes of a log in such pieces
abbrev pub torn : List Entry → List Entry
torn [] = []
torn (Wrote g o os m r ∷ es) = pieces g m r (runs o os) ++ torn es
torn (Resized g len ∷ es) = Resized g len ∷ torn es
torn (Marked g t s ∷ es) = Marked g t s ∷ torn es

-- a journal with a header of two bytes, opened as handle 0 and generation 0
abbrev journal : List Call → List Call
journal cs = Open (98 ∷ []) (106 ∷ []) (66 ∷ 74 ∷ []) ∷ cs

-- the bench after these calls, on a tape
abbrev after : List ℕ → List Call → Faulty
after tape cs = (left (tape_words tape) [] (journal cs)).under

-- what the ledger has noted of a place of the journal, the header's two counted
abbrev cell : List ℕ → List Call → ℕ → Cell
cell tape cs place = (ledger (tape_words tape) [] (journal cs)).pages 0 place

-- the file behind its header that a crash leaves if it replays this log
abbrev leaves : List ℕ → List Call → List Entry → List (List ℕ)
leaves tape cs es = map (λ f. drop 2 f.durable) (replayed es (after tape cs).store.volume (after tape cs).words).0.files

-- a plain write of 41 42 43, every byte of which survives
abbrev overwritten : List Call
overwritten = Configure (write_rates 0 65536 Prefix) ∷ Write 0 0 (0x41 ∷ 0x42 ∷ 0x43 ∷ []) false ∷ []

-- a SYNC write of 58 over its middle
abbrev over : Call
over = Write 0 1 (0x58 ∷ []) true

-- a SYNC write of 41 42 43 and a recorded resize to 1
abbrev shortened : List Call
shortened = Write 0 0 (0x41 ∷ 0x42 ∷ 0x43 ∷ []) true ∷ Configure (resize_rates 32768 0) ∷ Resize 0 1 ∷ []

-- a SYNC write of 5a behind the shortened end
abbrev behind : Call
behind = Write 0 2 (0x5a ∷ []) true

-- a plain write of 41 42 43 of which a front survives, and a SYNC write of 58 over its middle, which leaves two pieces of it
abbrev divided : List Call
divided = Configure (write_rates 0 32768 Prefix) ∷ Write 0 0 (0x41 ∷ 0x42 ∷ 0x43 ∷ []) false ∷ Write 0 1 (0x58 ∷ []) true ∷ []

-- What a crash would leave by each wrong log, and that it breaks a promise or differs from the right file.
pub record VariantsFail : Type 0 where
  -- an older loose byte comes over a later SYNC byte: 42 is neither fixed there nor put since
  pub older_byte : leaves [] (overwritten ++ (over ∷ [])) (fixed_over (after [] overwritten).log 0 1 (map Some (0x58 ∷ []))) ≡ (0x41 ∷ 0x42 ∷ 0x43 ∷ []) ∷ []
  pub older_byte_barred : Allowed (cell [] (overwritten ++ (over ∷ [])) 3) (Some 0x42) → ⊥
  -- a resize that was recorded earlier undoes a later SYNC byte: the place is empty, though a byte is fixed and no resize recorded since
  pub earlier_resize : leaves (40000 ∷ 1 ∷ []) (shortened ++ (behind ∷ [])) (fixed_bare (after (40000 ∷ 1 ∷ []) shortened).log 0 2 (map Some (0x5a ∷ []))) ≡ (0x41 ∷ []) ∷ []
  pub earlier_resize_barred : Allowed (cell (40000 ∷ 1 ∷ []) (shortened ++ (behind ∷ [])) 4) None → ⊥
  -- a selection for each piece that is left: the second piece survives, though the front ended before it
  pub right : leaves (40000 ∷ 1 ∷ []) divided (after (40000 ∷ 1 ∷ []) divided).log ≡ (0x00 ∷ 0x58 ∷ []) ∷ []
  pub drawn_anew : leaves (40000 ∷ 1 ∷ []) divided (torn (after (40000 ∷ 1 ∷ []) divided).log) ≡ (0x00 ∷ 0x58 ∷ 0x43 ∷ []) ∷ []
