-- What a table of handles stands for.
use Rattle.std.specs.Prelude.{ℕ, List}
use Rattle.store.specs.declared.handle.Handle.{Handle}

-- The handles held, in the order of their opening, and how many were issued.
pub record Held : Type 0 where
  pub handles : List Handle
  pub issued : ℕ

-- other handles, of as many issued
abbrev pub holding : Held → List Handle → Held
holding t hs = record { handles = hs; issued = t.issued }
