use Rattle.std.proofs.Common.{arith}
use Rattle.std.proofs.lemmas.Grind.{common_steps}
use Rattle.content.proofs.Lays.{lay-unflagged}
use Rattle.content.proofs.bytes.Content.put_chosen.Goals as goal

pub returns : goal.returns
returns c = grind (arith, common_steps, lay-unflagged)
