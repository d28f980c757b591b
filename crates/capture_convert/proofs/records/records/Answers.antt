-- `records::records` meets its contract.
use native.Mathlib.Omega.{arith}
use Rattle.capture_convert.proofs.Walking.{well, ill, stop, all_said, left, begin-storing, so_far, one-fits, next-storing}
use Rattle.capture_convert.proofs.records.records.Goals as goal

pub loop-end-init : goal.loop-end-init
loop-end-init c =
    let a = c.args in
    begin-storing a.block.now a.out.now c.find-end.result c.find-end.ensures.0 c.find-end.ensures.1

pub slice_bounds-read-count : goal.slice_bounds-read-count
slice_bounds-read-count c = let g = c.loop-end.invariant.walk in omega (arith, g.feed)

pub slice_bounds-read-start : goal.slice_bounds-read-start
slice_bounds-read-start c = let g = c.loop-end.invariant.walk in omega (arith, g.feed)

pub returns-in_default : goal.returns-in_default
returns-in_default c =
    let a = c.args in
    let g = c.loop-end.invariant in
    record {
      said = stop a.block.now c.loop-end.count c.loop-end.from c.loop-end.end g.walk c.loop-end-test.true (ill _ c.in_default.ensures);
      room = so_far a.block.now a.out.now c.loop-end.out c.loop-end.count c.loop-end.from c.loop-end.end g c.requires;
    }

pub overflow_mul-count : goal.overflow_mul-count
overflow_mul-count c =
    let a = c.args in
    omega (arith, one-fits a.block.now a.out.now c.loop-end.out c.loop-end.count c.loop-end.from c.loop-end.end c.loop-end.invariant c.requires c.loop-end-test.true)

pub put-requires : goal.put-requires
put-requires c =
    let a = c.args in
    let w = well _ _ c.in-Some.ensures in (
      one-fits a.block.now a.out.now c.loop-end.out c.loop-end.count c.loop-end.from c.loop-end.end c.loop-end.invariant c.requires c.loop-end-test.true,
      (w.few, (w.full, w.octets)),
    )

pub overflow_add-count : goal.overflow_add-count
overflow_add-count c =
    let g = c.loop-end.invariant.walk in
    omega (arith, g.slow, g.start)

pub loop-end-smaller : goal.loop-end-smaller
loop-end-smaller c =
    let g = c.loop-end.invariant.walk in
    omega (arith, g.feed)

pub loop-end-preserved : goal.loop-end-preserved
loop-end-preserved c =
    let a = c.args in
    let w = well _ _ c.in-Some.ensures in
    next-storing a.block.now a.out.now c.loop-end.out c.loop-end.count c.loop-end.from c.loop-end.end c.loop-end.invariant c.requires c.loop-end-test.true
    w.frame w.said w.carried _ c.put.new.out w.text c.put.ensures c.put.auto.out c.find-end-in-loop-end.result c.find-end-in-loop-end.ensures.0
    c.find-end-in-loop-end.ensures.1

pub shape_of-out : goal.shape_of-out
shape_of-out c = c.loop-end.invariant.long

pub returns : goal.returns
returns c =
    let a = c.args in
    let g = c.loop-end.invariant in
    record {
      frames = g.walk.done;
      said = all_said a.block.now c.loop-end.count c.loop-end.from c.loop-end.end g.walk c.loop-end-test.false;
      count = g.walk.counted;
      rest = left a.block.now c.loop-end.count c.loop-end.from c.loop-end.end g.walk c.loop-end-test.false;
      text = g.text;
      from = g.walk.start;
      room = so_far a.block.now a.out.now c.loop-end.out c.loop-end.count c.loop-end.from c.loop-end.end g c.requires;
    }
