-- `place::load` meets its contract: the fields are where the layout says.
use native.Mathlib.Omega.{arith}
use Rattle.state.specs.Layout.{count_at}
use Rattle.sessions.proofs.Stored.{fields, loaded}
use Rattle.sessions.proofs.place.load.Goals as goal

pub returns : goal.returns
unfolding count_at
returns c =
    let a = c.args in
    let m = a.state.now in
    let f = fields m a.i (omega arith) (omega arith) in
    loaded m a.i _ _ _ _ f.0 f.1 c.time-since.ensures c.count-len.ensures
