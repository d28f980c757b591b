-- `gathered::free` meets its contract.
use Rattle.state.specs.Layout.{free_of}
use Rattle.sessions.proofs.gathered.free.Goals as goal

pub returns : goal.returns
unfolding free_of
returns c = c.get_u64.ensures
