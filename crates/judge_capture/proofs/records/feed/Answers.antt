-- `feed` meets its contract: up to here the records have left the table as it is.
use native.Mathlib.Omega.{arith}
use Rattle.state.specs.Layout.{setup_of}
use Rattle.judge_capture.proofs.Walk.{part-long, walk_none, walk-on, walk-off, walk-all}
use Rattle.judge_capture.proofs.records.feed.Goals as goal

pub loop-i-init : goal.loop-i-init
loop-i-init c = (c.requires.1, walk_none (setup_of c.args.state.now) c.args.table.now c.args.records.now)

pub turn-requires : goal.turn-requires
turn-requires c =
    let a = c.args in
    (c.requires.0, (c.loop-i.invariant.0, part-long (setup_of a.state.now) a.table.now a.records.now c.loop-i.i c.loop-i.table c.loop-i.invariant.1 (omega arith)))

pub loop-i-preserved : goal.loop-i-preserved
loop-i-preserved c =
    let a = c.args in
    let h = c.in_default.ensures in
    (h.table, walk-on (setup_of a.state.now) a.table.now a.records.now c.loop-i.i c.loop-i.table c.loop-i.invariant.1 c.turn.new.table h)

pub returns-in-Err : goal.returns-in-Err
returns-in-Err c =
    let a = c.args in
    walk-off (setup_of a.state.now) a.table.now a.records.now c.loop-i.i c.loop-i.table c.loop-i.invariant.1 (omega arith) _ c.turn.new.table c.in-Err.ensures

pub returns : goal.returns
returns c =
    let a = c.args in
    walk-all (setup_of a.state.now) a.table.now a.records.now c.loop-i.i c.loop-i.table c.loop-i.invariant.1 (omega arith) c.loop-i.invariant.0
