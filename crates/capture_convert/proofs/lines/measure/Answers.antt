-- `lines::measure` meets its contract.
use mathlib.Core.Path.{◌≡◌, sym, ◌∙◌}
use Prim.Native.Nat.{◌+◌, ◌*◌, ◌-◌, ◌/◌}
use native.Mathlib.Omega.{arith}
use borrow.Author.Tests.{not-true, not-false}
use lib.ListN.{length}
use Rattle.bits.specs.Part.{span}
use Rattle.bits.proofs.Splice.{length-span}
use Rattle.capture_record.proofs.Records.{carriable-fit}
use Rattle.capture_convert.proofs.Walking.{begin-measuring, halt, passed, size_is, next-measuring}
use Rattle.capture_convert.proofs.lines.measure.Goals as goal

pub loop-count-init : goal.loop-count-init
loop-count-init c = begin-measuring c.args.records.now (length c.args.records.now / 21)

pub read-s-requires : goal.read-s-requires
read-s-requires c =
    let p = c.args.records.now in
    length-span p (c.loop-count.count * 21) (c.loop-count.count * 21 + 21 - c.loop-count.count * 21) (omega arith) ∙ omega arith

pub returns-then-not-s : goal.returns-then-not-s
returns-then-not-s c =
    let p = c.args.records.now in
    halt p (length p / 21) c.loop-count.count c.loop-count.invariant.gone c.loop-count-test.true
    (sym c.read-s.ensures.ok ∙ not-true c.read-s.result.ok c.if-not-s.true)

pub line_length-len-requires : goal.line_length-len-requires
line_length-len-requires c =
    omega (
      arith,
      c.read-s.ensures.len,
      (carriable-fit _ (sym c.read-s.ensures.ok ∙ not-false c.read-s.result.ok c.if-not-s.false)).few,
    )

pub loop-count-preserved : goal.loop-count-preserved
loop-count-preserved c =
    let p = c.args.records.now in
    let x = span p (c.loop-count.count * 21) (c.loop-count.count * 21 + 21 - c.loop-count.count * 21) in
    let k : length x ≡ 21 = length-span p (c.loop-count.count * 21) (c.loop-count.count * 21 + 21 - c.loop-count.count * 21) (omega arith) ∙ omega arith in
    let o = sym c.read-s.ensures.ok ∙ not-false c.read-s.result.ok c.if-not-s.false in
    next-measuring p (length p / 21) c.loop-count.count c.loop-count.len c.loop-count.invariant c.loop-count-test.true o c.read-s.result.time c.read-s.result.len
    c.line_length-len.result c.read-s.ensures.time (c.read-s.ensures.len ∙ sym (size_is x (carriable-fit x o) k)) c.line_length-len.ensures.0
    c.line_length-len.ensures.1

pub returns : goal.returns
returns c =
    let p = c.args.records.now in
    record {
      frames = c.loop-count.invariant.gone.done;
      carried = passed p (length p / 21) c.loop-count.count c.loop-count.invariant.gone c.loop-count-test.false;
      len = c.loop-count.invariant.sum;
    }
