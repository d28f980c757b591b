-- `records::scan` meets its contract.
use native.Mathlib.Omega.{arith}
use Rattle.capture_convert.proofs.Logs.{broken-frames}
use Rattle.capture_convert.proofs.Walking.{well, ill, begin, stop, next, all-frames, all_lines, no_frames}
use Rattle.capture_convert.proofs.records.scan.Goals as goal

pub loop-end-init : goal.loop-end-init
loop-end-init c =
    let a = c.args in
    begin a.log.now c.find-end.result c.find-end.ensures.0 c.find-end.ensures.1

pub slice_bounds-read-count : goal.slice_bounds-read-count
slice_bounds-read-count c = let g = c.loop-end.invariant in omega (arith, g.feed)

pub slice_bounds-read-start : goal.slice_bounds-read-start
slice_bounds-read-start c = let g = c.loop-end.invariant in omega (arith, g.feed)

pub returns-in_err-read : goal.returns-in_err-read
returns-in_err-read c =
    let p = c.args.log.now in
    rw c.from_residual.ensures (broken-frames p (stop p c.loop-end.count c.loop-end.from c.loop-end.end c.loop-end.invariant c.loop-end-test.true
    (ill _ c.in_err-read.ensures)))

pub overflow_add-count : goal.overflow_add-count
overflow_add-count c =
    let g = c.loop-end.invariant in
    omega (arith, g.slow, g.start)

pub loop-end-smaller : goal.loop-end-smaller
loop-end-smaller c =
    let g = c.loop-end.invariant in
    omega (arith, g.feed)

pub loop-end-preserved : goal.loop-end-preserved
loop-end-preserved c =
    let p = c.args.log.now in
    let w = well _ _ c.in_ok-read.ensures in
    next p c.loop-end.count c.loop-end.from c.loop-end.end c.loop-end.invariant c.loop-end-test.true w.frame w.said w.carried c.find-end-in-loop-end.result
    c.find-end-in-loop-end.ensures.0 c.find-end-in-loop-end.ensures.1

pub returns-then-from-log : goal.returns-then-from-log
returns-then-from-log c =
    let p = c.args.log.now in
    let g = c.loop-end.invariant in
    record {
      frames = g.done;
      read = all-frames p c.loop-end.count c.loop-end.from c.loop-end.end g c.loop-end-test.false c.if-from-log.true;
      count = g.counted;
      lines = all_lines p c.loop-end.count c.loop-end.from c.loop-end.end g c.loop-end-test.false;
    }

pub returns : goal.returns
returns c =
    no_frames c.args.log.now c.loop-end.count c.loop-end.from c.loop-end.end c.loop-end.invariant c.loop-end-test.false c.if-from-log.false
