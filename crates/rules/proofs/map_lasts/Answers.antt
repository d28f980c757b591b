-- A map without a fault stays one.
use Rattle.rules.proofs.Sends.{map_lasts}
use Rattle.rules.proofs.map_lasts.Goals as goal

pub returns : goal.returns
returns c = map_lasts
