-- `sound::records_sound` meets its contract: the places passed are in order, and no later ID may be above the last one.
use mathlib.Core.Path.{◌≡◌, sym, ap, ◌∙◌}
use Prim.Native.Nat.{ℕ}
use native.Mathlib.Numerals.{add-one}
use native.Mathlib.Omega.{arith}
use Rattle.std.specs.Prelude.{is_err}
use Rattle.queue.specs.Layout.{record_at, queued}
use Rattle.queue.specs.Queue.{fault_of, in_order}
use Rattle.queue.proofs.Records.{passes, stops}
use Rattle.queue.proofs.Soundness.{below_none, below_next, next-fine, next-refused, next-above, spoilt}
use Rattle.queue.proofs.sound.records_sound.Goals as goal

pub loop-i-init : goal.loop-i-init
loop-i-init c = (omega arith, below_none c.args.queue.now)

pub overflow_mul-at : goal.overflow_mul-at
overflow_mul-at c = omega arith

pub overflow_add-at : goal.overflow_add-at
overflow_add-at c = omega arith

pub fault-requires : goal.fault-requires
fault-requires c = omega arith

pub returns-then-is_err : goal.returns-then-is_err
returns-then-is_err c =
    let a = c.args in
    let m = a.queue.now in
    let i = c.loop-i.i in
    spoilt m i a.n (omega arith) (next-refused m i (stops (fault_of (record_at m i)) (ap is_err (sym c.fault.ensures) ∙ sym c.is_err.ensures.value ∙ c.if-is_err.true)))

pub id-id-requires : goal.id-id-requires
id-id-requires c = omega arith

pub returns-then-last-id : goal.returns-then-last-id
returns-then-last-id c =
    let a = c.args in
    let m = a.queue.now in
    let i = c.loop-i.i in
    spoilt m i a.n (omega arith)
    (next-above m i c.loop-i.last c.loop-i.invariant.1.1 c.id-id.result c.id-id.ensures (omega (arith, c.id-id.type_inv)) c.if-last-id.true)

pub loop-i-preserved : goal.loop-i-preserved
loop-i-preserved c =
    let a = c.args in
    let m = a.queue.now in
    let i = c.loop-i.i in (
      omega arith,
      (
        rw add-one (next-fine m i c.loop-i.last c.loop-i.invariant.1.0 c.loop-i.invariant.1.1 (passes (fault_of (record_at m i)) (ap is_err (sym c.fault.ensures) ∙ sym c.is_err.ensures.value ∙ c.if-is_err.false)) c.id-id.result c.id-id.ensures (omega (arith, c.id-id.type_inv)) c.if-last-id.false),
        rw add-one (below_next m i c.id-id.result c.id-id.ensures),
      ),
    )

pub returns : goal.returns
returns c =
    let a = c.args in
    let e : c.loop-i.i ≡ a.n = omega arith in
    sym c.loop-i.invariant.1.0 ∙ ap (λ (i : ℕ). in_order (queued a.queue.now i)) e
