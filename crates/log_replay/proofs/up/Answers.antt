-- `up` meets its contract.
use Rattle.log_replay.specs.Replay.{up}
use borrow.Author.Tests.{lt-ltb, le-ltb}
use Rattle.log_replay.proofs.up.Goals as goal

pub returns-then-n-lt18446744073709551615 : goal.returns-then-n-lt18446744073709551615
unfolding up
returns-then-n-lt18446744073709551615 c = rw (lt-ltb c.args.n 18446744073709551615 c.if-n-lt18446744073709551615.true)

pub returns : goal.returns
unfolding up
returns c = rw (le-ltb c.args.n 18446744073709551615 c.if-n-lt18446744073709551615.false)
