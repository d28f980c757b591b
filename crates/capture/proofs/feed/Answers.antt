-- `feed` is safe: a block has room for a record for each of its bytes.
use Rattle.std.proofs.Common.{◌-◌, take, arith, length-take-le}
use Rattle.capture_convert.proofs.Logs.{cut-few}
use Rattle.capture.proofs.feed.Goals as goal

pub records-requires : goal.records-requires
records-requires c =
    let p = c.args.block.now in
    let n = c.args.n in
    omega (arith, cut-few (take (n - 0) p), length-take-le (n - 0) p (omega (arith, c.requires.0, c.requires.1.0)), c.requires.0, c.requires.1.1)
