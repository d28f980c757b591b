-- `frames::count` meets its contract.
use borrow.Author.Tests.{le-leb, lt-leb}
use Rattle.rules.specs.Sending.{frame_count}
use Rattle.sender.proofs.frames.count.Goals as goal

pub returns-then-n-le-FRAME_PAYLOAD : goal.returns-then-n-le-FRAME_PAYLOAD
unfolding frame_count
returns-then-n-le-FRAME_PAYLOAD c = rw (le-leb c.args.n 7 c.if-n-le-FRAME_PAYLOAD.true)

pub returns : goal.returns
unfolding frame_count
returns c = rw (lt-leb c.args.n 7 c.if-n-le-FRAME_PAYLOAD.false)
