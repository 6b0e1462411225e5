use Rattle.laws.proofs.Counts.{size-promise}
use Rattle.laws.proofs.size_promise.Goals as goal

pub returns : goal.returns
returns c = size-promise
