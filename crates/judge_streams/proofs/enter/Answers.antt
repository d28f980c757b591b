-- `enter` meets its contract: the stream goes on from its place, or gets one, if there is one.
use native.Mathlib.Omega.{arith}
use Rattle.judge_streams.proofs.Turning.{ranged, known, full, new}
use Rattle.judge_streams.proofs.Words.{in-range}
use Rattle.judge_streams.proofs.enter.Goals as goal

pub follow-s-requires : goal.follow-s-requires
follow-s-requires c =
    (rw c.load.ensures (in-range c.args.table.now _), c.requires.1.passed)

pub put-requires : goal.put-requires
put-requires c =
    (c.requires.0.long, (omega arith, ranged c.args.signature _ c.args.v c.args.p.now c.follow-s.result c.follow-s.ensures))

pub returns-then-j-n : goal.returns-then-j-n
returns-then-j-n c =
    let a = c.args in
    known a.signature a.table.now a.v a.p.now c.requires.0 c.requires.1 c.find-j.result c.find-j.ensures c.if-j-n.true
    c.follow-s.result (rw c.load.ensures at c.follow-s.ensures) c.put.result c.put.new.table c.put.ensures

pub returns-then-n-ge-STREAMS : goal.returns-then-n-ge-STREAMS
returns-then-n-ge-STREAMS c =
    let a = c.args in
    full a.signature a.table.now a.v a.p.now c.requires.0 c.requires.1 c.find-j.result c.find-j.ensures c.if-j-n.false c.if-n-ge-STREAMS.true

pub put-requires-2 : goal.put-requires-2
put-requires-2 c =
    (c.requires.0.long, (omega arith, ranged c.args.signature _ c.args.v c.args.p.now c.begin-s.result c.begin-s.ensures))

pub returns : goal.returns
returns c =
    let a = c.args in
    new a.signature a.table.now a.v a.p.now c.requires.0 c.requires.1 c.find-j.result c.find-j.ensures c.if-j-n.false c.if-n-ge-STREAMS.false
    c.begin-s.result c.begin-s.ensures c.put-2.result c.put-2.new.table c.put-2.ensures
