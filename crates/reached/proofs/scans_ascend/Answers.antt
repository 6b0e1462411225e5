use Rattle.reached.proofs.Sorts.{scans}
use Rattle.reached.proofs.scans_ascend.Goals as goal

pub returns : goal.returns
returns c = scans
