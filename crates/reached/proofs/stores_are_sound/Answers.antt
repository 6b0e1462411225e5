use Rattle.reached.proofs.Runs.{sound}
use Rattle.reached.proofs.stores_are_sound.Goals as goal

pub returns : goal.returns
returns c = sound
