-- The generator's state 0 stays 0 for ever.
use Rattle.std.proofs.Common.{◌≡◌, ℕ, zero, suc, refl}
use Rattle.draw.specs.Sources.{generated}

pub zero-stays : (k : ℕ) → generated 0 k ≡ 0
zero-stays zero = refl
zero-stays (suc k) = zero-stays k
