-- `lines::lines` meets its contract.
use mathlib.Core.Path.{◌∙◌}
use Prim.Native.Nat.{◌+◌, ◌*◌, ◌-◌, ◌/◌}
use native.Mathlib.Omega.{arith}
use lib.ListN.{length}
use Rattle.bits.proofs.Splice.{length-span}
use Rattle.capture_convert.proofs.Walking.{begin-lining, carriable-next, line-fits, next-lining, lined}
use Rattle.capture_convert.proofs.lines.lines.Goals as goal

pub loop-count-init : goal.loop-count-init
loop-count-init c =
    let a = c.args in
    begin-lining a.records.now a.out.now (length a.records.now / 21)

pub line-p-requires : goal.line-p-requires
line-p-requires c =
    let b = c.args.records.now in
    let o = c.args.out.now in (
      length-span b (c.loop-count.count * 21) (c.loop-count.count * 21 + 21 - c.loop-count.count * 21) (omega arith) ∙ omega arith,
      (
        carriable-next b o c.loop-count.out (length b / 21) c.loop-count.count c.loop-count.p c.loop-count.invariant c.requires.frames c.requires.carried c.requires.room
            c.loop-count-test.true,
        line-fits b o c.loop-count.out (length b / 21) c.loop-count.count c.loop-count.p c.loop-count.invariant c.requires.frames c.requires.carried c.requires.room
            c.loop-count-test.true,
      ),
    )

pub loop-count-preserved : goal.loop-count-preserved
loop-count-preserved c =
    let b = c.args.records.now in
    next-lining b c.args.out.now c.loop-count.out (length b / 21) c.loop-count.count c.loop-count.p c.loop-count.invariant c.requires.frames c.requires.carried
    c.requires.room c.loop-count-test.true c.line-p.new.out c.line-p.result c.line-p.ensures c.line-p.auto.out

pub shape_of-out : goal.shape_of-out
shape_of-out c = c.loop-count.invariant.long

pub returns : goal.returns
returns c =
    lined c.args.records.now c.args.out.now c.loop-count.out c.loop-count.count c.loop-count.p c.loop-count.invariant c.loop-count-test.false c.requires
