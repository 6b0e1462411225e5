use Rattle.laws.proofs.Standings.{standing-promise}
use Rattle.laws.proofs.standing_promise.Goals as goal

pub returns : goal.returns
returns c = standing-promise
