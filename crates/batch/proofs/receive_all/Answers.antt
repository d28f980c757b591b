-- `receive_all` meets its contract. The invariant: what was received so far, followed by what is left, is the whole batch.
use mathlib.Core.Path.{sym, ◌∙◌}
use Prim.Native.Nat.{◌-◌}
use native.Mathlib.Omega.{arith}
use lib.ListN.{length}
use borrow.Rule.Slice.PartMut.{put_mid}
use Rattle.bits.specs.Part.{span}
use Rattle.batch.proofs.Turns.{at_first, at_last, part-lent, part-back, stopped, going}
use Rattle.batch.proofs.receive_all.Goals as goal

pub loop-i-init : goal.loop-i-init
loop-i-init c =
    at_first c.args.records.now c.args.n c.args.state.now c.args.results.now c.args.out.now c.requires.0

pub slice_bounds-receive_one-count : goal.slice_bounds-receive_one-count
slice_bounds-receive_one-count c = omega arith

pub slice_bounds-receive_one-start : goal.slice_bounds-receive_one-start
slice_bounds-receive_one-start c = omega arith

pub slice_bounds-receive_one-end : goal.slice_bounds-receive_one-end
slice_bounds-receive_one-end c = omega arith

pub overflow_mul-i : goal.overflow_mul-i
overflow_mul-i c = omega arith

pub overflow_add-past : goal.overflow_add-past
overflow_add-past c = omega arith

pub returns-then-is_full : goal.returns-then-is_full
returns-then-is_full c =
    let a = c.args in
    let g = c.loop-i.invariant in
    stopped a.records.now a.n a.state.now a.results.now a.out.now c.loop-i.state c.loop-i.results c.loop-i.out c.loop-i.i c.loop-i.past g (omega arith)
    c.receive_one-word.new.state (span c.loop-i.out c.loop-i.past (length c.loop-i.out - c.loop-i.past)) c.receive_one-word.new.out c.put_u64.new.s
    (put_mid c.loop-i.past (length c.loop-i.out - c.loop-i.past) c.loop-i.out c.receive_one-word.new.out) c.receive_one-word.result
    (part-lent c.loop-i.out c.loop-i.past g.inside) c.receive_one-word.ensures c.put_u64.ensures
    (part-back c.loop-i.out c.receive_one-word.new.out c.loop-i.past g.inside) (omega (arith, c.requires.1.1)) c.receive_one-word.auto.out
    (sym c.is_full.ensures ∙ c.if-is_full.true)

pub loop-i-preserved : goal.loop-i-preserved
loop-i-preserved c =
    let a = c.args in
    let g = c.loop-i.invariant in
    going a.records.now a.n a.state.now a.results.now a.out.now c.loop-i.state c.loop-i.results c.loop-i.out c.loop-i.i c.loop-i.past g (omega arith)
    c.receive_one-word.new.state (span c.loop-i.out c.loop-i.past (length c.loop-i.out - c.loop-i.past)) c.receive_one-word.new.out c.put_u64.new.s
    (put_mid c.loop-i.past (length c.loop-i.out - c.loop-i.past) c.loop-i.out c.receive_one-word.new.out) c.receive_one-word.result
    (part-lent c.loop-i.out c.loop-i.past g.inside) c.receive_one-word.ensures c.put_u64.ensures
    (part-back c.loop-i.out c.receive_one-word.new.out c.loop-i.past g.inside) (omega (arith, c.requires.1.1)) c.receive_one-word.auto.out
    (sym c.is_full.ensures ∙ c.if-is_full.false) c.receive_one-word.auto.state c.put_u64.auto.s

pub returns : goal.returns
returns c =
    at_last c.args.records.now c.args.n c.args.state.now c.args.results.now c.args.out.now c.loop-i.state c.loop-i.results c.loop-i.out c.loop-i.i c.loop-i.past c.loop-i.invariant
    (omega (arith, c.loop-i.invariant.within))
