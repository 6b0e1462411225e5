use Rattle.std.proofs.Common.{sym, arith}
use Rattle.std.specs.Str.{bytes_eq}
use Rattle.std.proofs.lemmas.Grind.{common_steps}
use Rattle.store.proofs.Finds.{position_some}
use Rattle.memory.proofs.Standing.{standing, standing_place}
use Rattle.memory.proofs.medium.MemoryMedium.remove_partition.Goals as goal

pub returns-clause-state : goal.returns-clause-state
returns-clause-state c =
    let v = c.args.self.now in
    let p = c.args.partition.now in
    let h = sym c.in_ok-i.ensures in
    let at = position_some (λ q. bytes_eq q p) v.partitions c.in_ok-i.i (standing_place v p c.in_ok-i.i h) in
    let gone = at.removal in
    grind (arith, common_steps, standing)
