-- `store::copy` meets its contract: the records from j on are stored.
use mathlib.Core.Path.{◌≡◌, refl, ap, ◌∙◌}
use Prim.Native.Nat.{ℕ, ◌+◌, ◌*◌, ◌-◌}
use native.Mathlib.Omega.{arith}
use Rattle.bits.specs.Part.{splice}
use Rattle.bits.specs.Tabulate.{tabulate}
use Rattle.rules.specs.Limits.{frame_record}
use Rattle.queue.specs.Layout.{records_at, given, stored}
use Rattle.queue.proofs.Bytes.{copied_none, copied_more}
use Rattle.queue.proofs.store.copy.Goals as goal

pub overflow_mul-at : goal.overflow_mul-at
overflow_mul-at c = omega arith

pub overflow_add-at : goal.overflow_add-at
overflow_add-at c = omega arith

pub loop-j-init : goal.loop-j-init
loop-j-init c =
    let a = c.args in
    (omega arith, (omega arith, (refl, copied_none a.queue.now a.records.now (records_at + a.p * frame_record) a.e)))

pub copy_span-requires : goal.copy_span-requires
copy_span-requires c = omega arith

pub overflow_add-at-in-loop-j : goal.overflow_add-at-in-loop-j
overflow_add-at-in-loop-j c = omega arith

pub loop-j-preserved : goal.loop-j-preserved
loop-j-preserved c =
    let a = c.args in (
      omega arith,
      (
        omega arith,
        copied_more a.queue.now a.records.now c.loop-j.queue c.copy_span.new.dst (records_at + a.p * frame_record) c.loop-j.at a.e c.loop-j.j (c.loop-j.j - 1)
            (omega arith) (omega arith) (omega arith) (omega arith) c.loop-j.invariant.1.0 c.loop-j.invariant.1.1.1 c.copy_span.ensures,
      ),
    )

pub shape_of-queue : goal.shape_of-queue
shape_of-queue c = c.loop-j.invariant.1.1.0

pub returns : goal.returns
returns c =
    let a = c.args in
    let e : c.loop-j.j ≡ a.i = omega arith in
    c.loop-j.invariant.1.1.1 ∙ ap (λ (j : ℕ). splice a.queue.now (records_at + a.p * frame_record) (stored (tabulate (given a.records.now) j (a.e - j)))) e
