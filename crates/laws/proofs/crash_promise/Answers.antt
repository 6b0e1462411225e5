use Rattle.laws.proofs.Promise.{crash-promise}
use Rattle.laws.proofs.crash_promise.Goals as goal

pub returns : goal.returns
returns c = crash-promise
