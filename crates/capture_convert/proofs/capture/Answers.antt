-- `capture` meets its contract.
use Rattle.capture_convert.proofs.Calls.{ill-formed, too_many, too_small, room, made}
use Rattle.capture_convert.proofs.capture.Goals as goal

pub returns-in_default-clause-out_after : goal.returns-in_default-clause-out_after
returns-in_default-clause-out_after c = ill-formed c.args.log.now c.args.out.now c.in_default.ensures

pub returns-then-n-ge-LINES_OVER-clause-out_after : goal.returns-then-n-ge-LINES_OVER-clause-out_after
returns-then-n-ge-LINES_OVER-clause-out_after c =
    too_many c.args.log.now c.args.out.now c.in-Some.n c.in-Some.ensures c.if-n-ge-LINES_OVER.true

pub returns-then-out-size-clause-out_after : goal.returns-then-out-size-clause-out_after
returns-then-out-size-clause-out_after c =
    too_small c.args.log.now c.args.out.now c.in-Some.n c.in-Some.ensures c.if-n-ge-LINES_OVER.false c.if-out-size.true

pub records-requires : goal.records-requires
records-requires c =
    room c.args.log.now c.args.out.now c.in-Some.n c.in-Some.ensures c.if-n-ge-LINES_OVER.false c.if-out-size.false

pub returns-clause-out_after : goal.returns-clause-out_after
returns-clause-out_after c =
    made c.args.log.now c.args.out.now c.in-Some.n c.in-Some.ensures c.if-n-ge-LINES_OVER.false c.if-out-size.false c.records.result c.records.new.out
    c.records.ensures c.sum-sum.result c.put.new.out c.sum-sum.ensures c.put.ensures
