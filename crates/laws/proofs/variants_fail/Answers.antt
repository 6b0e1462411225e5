use Rattle.laws.proofs.Bites.{variants}
use Rattle.laws.proofs.variants_fail.Goals as goal

pub returns : goal.returns
returns c = variants
