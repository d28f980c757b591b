-- `trailer::find` meets its contract.
use Rattle.capture_convert.proofs.Calls.{unformed, outside, matched, mismatched}
use Rattle.capture_convert.proofs.Trailers.{too_short}
use Rattle.capture_convert.proofs.trailer.find.Goals as goal

pub returns-then-n-lt-SIZE : goal.returns-then-n-lt-SIZE
returns-then-n-lt-SIZE c = too_short c.args.c.now c.if-n-lt-SIZE.true

pub returns-in_err-t : goal.returns-in_err-t
returns-in_err-t c = rw c.from_residual.ensures (unformed c.args.c.now c.if-n-lt-SIZE.false c.in_err-t.ensures)

pub returns-then-end-size : goal.returns-then-end-size
returns-then-end-size c = outside c.args.c.now c.if-n-lt-SIZE.false c.in_ok-t.t c.in_ok-t.ensures c.if-end-size.true

pub returns-then-sum-t : goal.returns-then-sum-t
returns-then-sum-t c =
    matched c.args.c.now c.if-n-lt-SIZE.false c.in_ok-t.t c.in_ok-t.ensures c.if-end-size.false c.sum.result c.sum.ensures c.if-sum-t.true

pub returns : goal.returns
returns c =
    mismatched c.args.c.now c.if-n-lt-SIZE.false c.in_ok-t.t c.in_ok-t.ensures c.if-end-size.false c.sum.result c.sum.ensures c.if-sum-t.false
