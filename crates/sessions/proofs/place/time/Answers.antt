-- `place::time` meets its contract.
use Rattle.state.specs.Layout.{time_at}
use Rattle.sessions.proofs.place.time.Goals as goal

pub returns : goal.returns
unfolding time_at
returns c = c.get_u64.ensures
