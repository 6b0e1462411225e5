use Rattle.laws.proofs.Promise.{ledger-knows}
use Rattle.laws.proofs.ledger_knows.Goals as goal

pub returns : goal.returns
returns c = ledger-knows
