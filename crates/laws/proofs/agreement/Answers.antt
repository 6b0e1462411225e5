use Rattle.laws.proofs.Local.{agreement}
use Rattle.laws.proofs.agreement.Goals as goal

pub returns : goal.returns
returns c = agreement
