-- `frames::next` meets its contract: the last frame, or a full one.
use native.Mathlib.Omega.{arith}
use Rattle.bits.proofs.Octets.{octets-all}
use Rattle.sender.proofs.Pieces.{next_last, next-full}
use Rattle.sender.proofs.frames.next.Goals as goal

pub returns-then-left-le-FRAME_PAYLOAD : goal.returns-then-left-le-FRAME_PAYLOAD
returns-then-left-le-FRAME_PAYLOAD c =
    let a = c.args in
    next_last a.out.now c.put.new.out a.unsent.now a.at a.id a.tail c.word.result (octets-all a.unsent.now (λ i. omega (arith, c.shared_slice_known-1.given i))) (omega arith) c.if-left-le-FRAME_PAYLOAD.true c.word.ensures c.put.ensures

pub returns : goal.returns
returns c =
    let a = c.args in
    next-full a.out.now c.put-2.new.out a.unsent.now a.at a.id a.tail c.word-2.result (octets-all a.unsent.now (λ i. omega (arith, c.shared_slice_known-1.given i))) (omega arith) c.if-left-le-FRAME_PAYLOAD.false c.word-2.ensures c.put-2.ensures
