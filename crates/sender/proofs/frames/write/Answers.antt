-- `frames::write` meets its contract: one frame, or the first with the checksum and the others.
use native.Mathlib.Omega.{arith}
use lib.ListN.{length}
use Rattle.sender.proofs.Pieces.{count-one, count-several, write-one, write-several}
use Rattle.sender.proofs.frames.write.Goals as goal

pub next-requires : goal.next-requires
next-requires c =
    let a = c.args in
    omega (arith, count-one (length a.payload.now) c.if-payload-le-FRAME_PAYLOAD.true)

pub returns-then-payload-le-FRAME_PAYLOAD : goal.returns-then-payload-le-FRAME_PAYLOAD
returns-then-payload-le-FRAME_PAYLOAD c =
    let a = c.args in
    write-one a.out.now a.payload.now a.id a.transfer a.signature c.next.new.out c.if-payload-le-FRAME_PAYLOAD.true c.next.ensures

pub first-requires : goal.first-requires
first-requires c =
    let a = c.args in
    omega (arith, count-several (length a.payload.now) c.if-payload-le-FRAME_PAYLOAD.false)

pub others-requires : goal.others-requires
others-requires c =
    let a = c.args in
    omega (arith, count-several (length a.payload.now) c.if-payload-le-FRAME_PAYLOAD.false, c.first.auto.out)

pub returns : goal.returns
returns c =
    let a = c.args in
    write-several a.out.now a.payload.now a.id a.transfer a.signature c.first.new.out c.others.new.out c.transfer-sum.result c.if-payload-le-FRAME_PAYLOAD.false
    (omega (arith, count-several (length a.payload.now) c.if-payload-le-FRAME_PAYLOAD.false)) c.transfer-sum.ensures c.first.ensures c.others.ensures
