-- `take` meets its contract.
use Rattle.queue.proofs.Calls.{sound-is, take-faulty, take_none, take_done}
use Rattle.queue.proofs.Soundness.{long-enough}
use Rattle.queue.proofs.take.Goals as goal

pub returns-then-not-is_sound : goal.returns-then-not-is_sound
returns-then-not-is_sound c =
    take-faulty c.args.queue.now c.is_sound.result c.is_sound.ensures c.if-not-is_sound.true

pub count-n-requires : goal.count-n-requires
count-n-requires c =
    let m = c.args.queue.now in
    long-enough m (sound-is m c.is_sound.result c.is_sound.ensures c.if-not-is_sound.false)

pub returns-then-n-eq0 : goal.returns-then-n-eq0
returns-then-n-eq0 c =
    let m = c.args.queue.now in
    take_none m (sound-is m c.is_sound.result c.is_sound.ensures c.if-not-is_sound.false) c.count-n.result c.count-n.ensures c.if-n-eq0.true

pub put_u64-requires : goal.put_u64-requires
put_u64-requires c =
    let m = c.args.queue.now in
    long-enough m (sound-is m c.is_sound.result c.is_sound.ensures c.if-not-is_sound.false)

pub returns : goal.returns
returns c =
    let m = c.args.queue.now in
    take_done m (sound-is m c.is_sound.result c.is_sound.ensures c.if-not-is_sound.false) c.count-n.result c.count-n.ensures c.if-n-eq0.false c.put_u64.new.s c.put_u64.ensures
