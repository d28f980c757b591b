-- `counted` meets its contract.
use Rattle.log_replay.specs.Replay.{counted}
use Rattle.log_replay.proofs.counted.Goals as goal

pub returns-then-handed : goal.returns-then-handed
unfolding counted
returns-then-handed c =
    rw (c.up-lines.ensures, c.up.ensures, c.if-handed.true)

pub returns : goal.returns
unfolding counted
returns c =
    rw (c.up-lines.ensures, c.if-handed.false)
