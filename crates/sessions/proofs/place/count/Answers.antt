-- `place::count` meets its contract.
use Rattle.state.specs.Layout.{count_at}
use Rattle.sessions.proofs.place.count.Goals as goal

pub returns : goal.returns
unfolding count_at
returns c = c.get_u16.ensures
