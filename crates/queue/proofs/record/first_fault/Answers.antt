-- `record::first_fault` meets its contract: no record passed is refused.
use mathlib.Core.Path.{sym, ap, ◌∙◌}
use Prim.Native.Nat.{ℕ, ◌/◌}
use native.Mathlib.Nat.{sub-zero}
use native.Mathlib.Numerals.{add-one}
use native.Mathlib.Omega.{arith}
use lib.ListN.{length}
use Rattle.bits.specs.Tabulate.{tabulate}
use Rattle.rules.specs.Limits.{frame_record}
use Rattle.std.specs.Prelude.{is_err}
use Rattle.queue.specs.inside.Checked.{checked}
use Rattle.queue.specs.Layout.{given}
use Rattle.queue.specs.Queue.{fault_of, first_fault}
use Rattle.queue.proofs.Records.{handed-on, passes, stops, hit, miss, none}
use Rattle.queue.proofs.record.first_fault.Goals as goal

pub loop-i-init : goal.loop-i-init
loop-i-init c =
    let p = c.args.records.now in (omega arith, ap (λ (n : ℕ). first_fault (tabulate (given p) 0 n)) (sub-zero (length p / frame_record)))

pub overflow_mul-i : goal.overflow_mul-i
overflow_mul-i c = omega arith

pub fault-requires : goal.fault-requires
fault-requires c = omega arith

pub returns-in_err-fault : goal.returns-in_err-fault
returns-in_err-fault c =
    let p = c.args.records.now in
    let i = c.loop-i.i in
    let r = c.from_residual in
    let e = c.in_err-fault.ensures in
    handed-on r.result c.in_err-fault.field-0.0 r.ensures.1 ∙ e
    ∙ ap checked (hit (given p) i (length p / frame_record) (omega arith) (stops (fault_of (given p i)) (sym (ap is_err e))) ∙ c.loop-i.invariant.1)

pub loop-i-preserved : goal.loop-i-preserved
loop-i-preserved c =
    let p = c.args.records.now in
    let i = c.loop-i.i in
    (omega arith, rw add-one (miss (given p) i (length p / frame_record) (omega arith) (passes (fault_of (given p i)) (sym (ap is_err c.in_ok-fault.ensures))) ∙ c.loop-i.invariant.1))

pub returns : goal.returns
returns c =
    let p = c.args.records.now in
    ap checked (none (given p) c.loop-i.i (length p / frame_record) (omega arith) ∙ c.loop-i.invariant.1)
