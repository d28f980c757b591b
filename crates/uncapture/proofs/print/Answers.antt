-- `print` is safe: a block has room for the lines of its records.
use Rattle.std.proofs.Common.{arith}
use lib.ListN.{length}
use Rattle.capture_convert.proofs.Calls.{prints}
use Rattle.uncapture.proofs.print.Goals as goal

pub lines-len-requires : goal.lines-len-requires
lines-len-requires c =
    prints c.args.records.now c.in_default.field-0 (length c.args.out.now) c.in_default.ensures (omega (arith, c.requires.0, c.requires.1))
