-- `place::key` meets its contract.
use Rattle.state.specs.Layout.{key_at}
use Rattle.sessions.proofs.place.key.Goals as goal

pub returns : goal.returns
unfolding key_at
returns c = c.get_u32.ensures
