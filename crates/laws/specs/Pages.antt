-- What the ledger notes of each place of a file, header included.
use Rattle.std.specs.Prelude.{◌≡◌, ℕ, zero, suc, Bool, true, false, cond, List, [], ◌∷◌, Some, None, Option, ◌==◌}
use Rattle.std.specs.List.{ContainsAt}
use Rattle.content.specs.Patches.{Patch}

-- what a place of a content holds: nothing past the end
abbrev pub held : List ℕ → ℕ → Option ℕ
held [] p = None
held (x ∷ xs) zero = Some x
held (x ∷ xs) (suc p) = held xs p

-- the byte that a patch from place i on has for place p
abbrev pub reach : ℕ → Patch → ℕ → Option ℕ
reach i [] p = None
reach i (None ∷ os) p = reach (suc i) os p
reach i (Some b ∷ os) p = cond (i == p) (Some b) (reach (suc i) os p)

-- The byte last fixed at a place, or none; the bytes put there since; whether a resize was recorded since.
pub record Cell : Type 0 where
  pub fixed : Option ℕ
  pub puts : List ℕ
  pub mark : Bool

-- a cell for each place of a file, header included
abbrev pub Page : Type 0
Page = ℕ → Cell

-- a fixing sets the byte and clears the rest
abbrev pub settled_at : Option ℕ → Cell
settled_at o = record { fixed = o; puts = []; mark = false }

-- a whole content is fixed, empty beyond
abbrev pub fix_whole : List ℕ → Page
fix_whole xs p = settled_at (held xs p)

-- the bytes of a patch are fixed, and no other place
abbrev pub fix_cell : Option ℕ → Cell → Cell
fix_cell None c = c
fix_cell (Some b) c = settled_at (Some b)

-- from place i on
abbrev pub fix_range : ℕ → Patch → Page → Page
fix_range i f page p = fix_cell (reach i f p) (page p)

-- a recorded write puts its bytes
abbrev pub put_cell : Option ℕ → Cell → Cell
put_cell None c = c
put_cell (Some b) c = record { fixed = c.fixed; puts = b ∷ c.puts; mark = c.mark }

-- from place i on
abbrev pub put_range : ℕ → Patch → Page → Page
put_range i f page p = put_cell (reach i f p) (page p)

-- a recorded resize marks all places of its file
abbrev pub mark_all : Page → Page
mark_all page p = record { fixed = (page p).fixed; puts = (page p).puts; mark = true }

-- empty or zero
abbrev pub Blank : Option ℕ → Type 0
Blank None = Unit {0}
Blank (Some b) = b ≡ 0

-- What a place may hold after a crash: the byte last fixed there, or one put since; or nothing or a zero, but only if a
-- resize was recorded since that fixing, or no byte was fixed there.
pub data Allowed (c : Cell) (o : Option ℕ) : Type 0 where
  as_fixed : (b : ℕ) → o ≡ Some b → c.fixed ≡ Some b → Allowed c o
  as_put : (b : ℕ) → o ≡ Some b → ContainsAt c.puts b → Allowed c o
  blank_marked : Blank o → c.mark ≡ true → Allowed c o
  blank_unfixed : Blank o → c.fixed ≡ None → Allowed c o
