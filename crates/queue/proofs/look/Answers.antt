-- `look` meets its contract.
use native.Mathlib.Omega.{arith}
use Rattle.queue.proofs.Calls.{sound-is, look-faulty, n-fits, look_none, look-small, look-done}
use Rattle.queue.proofs.Soundness.{long-enough}
use Rattle.queue.proofs.look.Goals as goal

pub returns-then-not-is_sound : goal.returns-then-not-is_sound
returns-then-not-is_sound c =
    let a = c.args in
    look-faulty a.queue.now c.is_sound.result c.is_sound.ensures c.if-not-is_sound.true a.out.now

pub count-n-requires : goal.count-n-requires
count-n-requires c =
    let m = c.args.queue.now in
    long-enough m (sound-is m c.is_sound.result c.is_sound.ensures c.if-not-is_sound.false)

pub returns-then-n-eq0 : goal.returns-then-n-eq0
returns-then-n-eq0 c =
    let a = c.args in
    let m = a.queue.now in
    look_none m (sound-is m c.is_sound.result c.is_sound.ensures c.if-not-is_sound.false) c.count-n.result c.count-n.ensures c.if-n-eq0.true a.out.now

pub returns-then-out-lt-FRAME_RECORD : goal.returns-then-out-lt-FRAME_RECORD
returns-then-out-lt-FRAME_RECORD c =
    let a = c.args in
    let m = a.queue.now in
    look-small m (sound-is m c.is_sound.result c.is_sound.ensures c.if-not-is_sound.false) c.count-n.result c.count-n.ensures c.if-n-eq0.false a.out.now c.if-out-lt-FRAME_RECORD.true

pub overflow_mul-n : goal.overflow_mul-n
overflow_mul-n c =
    let m = c.args.queue.now in
    omega (arith, n-fits m (sound-is m c.is_sound.result c.is_sound.ensures c.if-not-is_sound.false) c.count-n.result c.count-n.ensures)

pub overflow_add-n : goal.overflow_add-n
overflow_add-n c =
    let m = c.args.queue.now in
    omega (arith, n-fits m (sound-is m c.is_sound.result c.is_sound.ensures c.if-not-is_sound.false) c.count-n.result c.count-n.ensures)

pub copy_span-requires : goal.copy_span-requires
copy_span-requires c =
    let m = c.args.queue.now in
    let f = n-fits m (sound-is m c.is_sound.result c.is_sound.ensures c.if-not-is_sound.false) c.count-n.result c.count-n.ensures in
    omega (arith, f)

pub returns : goal.returns
returns c =
    let a = c.args in
    let m = a.queue.now in
    look-done m (sound-is m c.is_sound.result c.is_sound.ensures c.if-not-is_sound.false) c.count-n.result c.count-n.ensures c.if-n-eq0.false a.out.now c.copy_span.new.dst c.if-out-lt-FRAME_RECORD.false c.copy_span.ensures
