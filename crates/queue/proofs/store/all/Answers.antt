-- `store::all` meets its contract: the first i records are in.
use mathlib.Core.Path.{◌≡◌, refl, ap, ◌∙◌}
use Prim.Native.Nat.{ℕ, ◌/◌}
use native.Mathlib.Omega.{arith}
use lib.ListN.{length}
use Rattle.bits.specs.Part.{splice}
use Rattle.bits.specs.Tabulate.{tabulate}
use Rattle.rules.specs.Limits.{frame_record}
use Rattle.queue.specs.Layout.{records_at, queued, given, stored}
use Rattle.queue.specs.Queue.{put_all}
use Rattle.queue.proofs.Bytes.{all_none, all_more}
use Rattle.queue.proofs.store.all.Goals as goal

pub loop-i-init : goal.loop-i-init
loop-i-init c =
    let a = c.args in
    (omega arith, (refl, all_none a.queue.now a.records.now a.n (length a.records.now / frame_record) (omega arith) (omega arith)))

pub run_end-e-requires : goal.run_end-e-requires
run_end-e-requires c = (omega arith, omega arith)

pub overflow_add-n : goal.overflow_add-n
overflow_add-n c = omega arith

pub run-requires : goal.run-requires
run-requires c =
    let r = c.run_end-e.ensures in
    record { frame_record_in_bounds = (omega (arith, r.some, r.within), omega (arith, r.within)); run = record { some = r.some; within = omega arith; alike = r.alike } }

pub loop-i-smaller : goal.loop-i-smaller
loop-i-smaller c = let r = c.run_end-e.ensures in omega (arith, r.some, r.within)

pub loop-i-preserved : goal.loop-i-preserved
loop-i-preserved c =
    let r = c.run_end-e in
    let a = c.args in (
      r.ensures.within,
      all_more a.queue.now a.records.now a.n (length a.records.now / frame_record) (omega arith) (omega arith) c.loop-i.queue c.run.new.queue c.loop-i.i r.result
          (omega (arith, r.ensures.some)) r.ensures.within c.loop-i.invariant.1.1 c.run.ensures,
    )

pub shape_of-queue : goal.shape_of-queue
shape_of-queue c = c.loop-i.invariant.1.0

pub returns : goal.returns
returns c =
    let a = c.args in
    let e : c.loop-i.i ≡ length a.records.now / frame_record = omega arith in
    c.loop-i.invariant.1.1 ∙ ap (λ (i : ℕ). splice a.queue.now records_at (stored (put_all (queued a.queue.now a.n) (tabulate (given a.records.now) 0 i)))) e
