-- `sum_ok` meets its contract: the two bytes in front, low byte first, against the checksum of those after them.
use mathlib.Core.Path.{◌≡◌}
use native.Mathlib.Omega.{arith}
use lib.ListN.{length, take}
use lib.Seq.{length-take-le}
use Rattle.session.proofs.Gathered.{sum-short, sum-at}
use Rattle.session.proofs.sum_ok.Goals as goal

pub returns-then-len-lt2 : goal.returns-then-len-lt2
returns-then-len-lt2 c =
    let a = c.args in
    let s = a.s.now in
    let l : length (take a.len s) ≡ a.len = length-take-le a.len s (omega arith) in
    sum-short a.signature (take a.len s) (omega arith)

pub returns : goal.returns
returns c =
    let a = c.args in
    rw (c.wide-2.ensures, c.wide.ensures, c.transfer_span-sum.ensures) (sum-at a.s.now a.len (omega arith) (omega arith) a.signature)
