-- `put` meets its contract.
use mathlib.Core.Path.{refl, sym, ap, ◌∙◌}
use native.Mathlib.Omega.{arith}
use Rattle.std.specs.Prelude.{is_err}
use Rattle.queue.specs.Layout.{records_of}
use Rattle.queue.specs.Queue.{first_fault}
use Rattle.queue.proofs.Calls.{sound-is, put-faulty, put-cut, put_refused, put_full, room_for, put-done}
use Rattle.queue.proofs.Records.{handed-on, passes, stops}
use Rattle.queue.proofs.Soundness.{long-enough, few}
use Rattle.queue.proofs.put.Goals as goal

pub returns-then-not-is_sound : goal.returns-then-not-is_sound
returns-then-not-is_sound c =
    let a = c.args in
    put-faulty a.queue.now c.is_sound.result c.is_sound.ensures c.if-not-is_sound.true a.records.now

pub returns-then-records-ne0 : goal.returns-then-records-ne0
returns-then-records-ne0 c =
    let a = c.args in
    let m = a.queue.now in
    put-cut m (sound-is m c.is_sound.result c.is_sound.ensures c.if-not-is_sound.false) _ refl a.records.now c.if-records-ne0.true

pub returns-in_err-first_fault : goal.returns-in_err-first_fault
returns-in_err-first_fault c =
    let a = c.args in
    let m = a.queue.now in
    let p = a.records.now in
    let s = sound-is m c.is_sound.result c.is_sound.ensures c.if-not-is_sound.false in
    let r = c.from_residual in
    let e = c.in_err-first_fault.ensures in
    put_refused m s _ refl p c.if-records-ne0.false r.result (handed-on r.result c.in_err-first_fault.field-0.0 r.ensures.1 ∙ e) (stops (first_fault (records_of p)) (sym (ap is_err e)))

pub count-n-requires : goal.count-n-requires
count-n-requires c =
    let a = c.args in
    let m = a.queue.now in
    let s = sound-is m c.is_sound.result c.is_sound.ensures c.if-not-is_sound.false in
    long-enough m s

pub overflow_sub-capacity : goal.overflow_sub-capacity
overflow_sub-capacity c =
    let a = c.args in
    let m = a.queue.now in
    let s = sound-is m c.is_sound.result c.is_sound.ensures c.if-not-is_sound.false in
    omega (arith, few m s, c.count-n.ensures, c.capacity.ensures)

pub returns-then-capacity-n : goal.returns-then-capacity-n
returns-then-capacity-n c =
    let a = c.args in
    let m = a.queue.now in
    let s = sound-is m c.is_sound.result c.is_sound.ensures c.if-not-is_sound.false in
    put_full m s c.count-n.result c.count-n.ensures a.records.now c.if-records-ne0.false (passes (first_fault (records_of a.records.now)) (sym (ap is_err c.in_ok-first_fault.ensures)))
    c.capacity.result c.capacity.ensures c.if-capacity-n.true

pub all-requires : goal.all-requires
all-requires c =
    let a = c.args in
    let m = a.queue.now in
    let s = sound-is m c.is_sound.result c.is_sound.ensures c.if-not-is_sound.false in
    room_for m s c.count-n.result c.count-n.ensures a.records.now c.if-records-ne0.false (passes (first_fault (records_of a.records.now)) (sym (ap is_err c.in_ok-first_fault.ensures)))
    c.capacity.result c.capacity.ensures c.if-capacity-n.false

pub put_u64-requires : goal.put_u64-requires
put_u64-requires c =
    let a = c.args in
    let m = a.queue.now in
    let s = sound-is m c.is_sound.result c.is_sound.ensures c.if-not-is_sound.false in
    omega (arith, long-enough m s)

pub returns : goal.returns
returns c =
    let a = c.args in
    let m = a.queue.now in
    let s = sound-is m c.is_sound.result c.is_sound.ensures c.if-not-is_sound.false in
    put-done m s c.count-n.result c.count-n.ensures a.records.now c.if-records-ne0.false (passes (first_fault (records_of a.records.now)) (sym (ap is_err c.in_ok-first_fault.ensures)))
    c.capacity.result c.capacity.ensures c.if-capacity-n.false c.all.new.queue c.put_u64.new.s c.all.ensures c.put_u64.ensures
