-- `show_frame` is safe: a line has at most 47 bytes.
use Rattle.std.proofs.Common.{arith}
use Rattle.capture_convert.proofs.Calls.{prints}
use Rattle.judge.proofs.fault.show_frame.Goals as goal

pub lines-n-requires : goal.lines-n-requires
lines-n-requires c =
    prints c.args.r.now _ 47 c.in-Ok.ensures (omega (arith, c.requires))
