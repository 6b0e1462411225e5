-- A durable write as a medium is asked for it: past the limit nothing changes.
use Rattle.std.specs.Prelude.{ℕ, ◌+◌, cond, List, length, nat_le}
use Rattle.content.specs.Bytes.{limit}
use Rattle.store.specs.Meaning.{Volume}
use Rattle.store.specs.Durable.{durable_written}

-- a durable write, if it ends within the limit
abbrev pub kept_within : Volume → ℕ → ℕ → List ℕ → Volume
kept_within v g at bs = cond (nat_le (at + length bs) limit) (durable_written v g at bs) v
