-- `dispatch` meets its contract: the checks in their order, then a response or a transfer ID from the map.
use mathlib.Core.Path.{◌≡◌, sym, ap, ◌∙◌}
use mathlib.Core.Bool.{false}
use mathlib.Core.List.{List}
use Prim.Native.Nat.{ℕ}
use native.Mathlib.Omega.{arith}
use lib.ListN.{length}
use Rattle.bits.specs.Part.{splice}
use Rattle.bits.proofs.Octets.{octets-all}
use Rattle.rules.specs.Sending.{not_sendable, records_of}
use Rattle.rules.specs.SendingLaws.{InRange}
use Rattle.rules.specs.Sent.{sent}
use Rattle.rules.proofs.Calls.{in-range}
use Rattle.sender.specs.Send.{call_of, returned}
use Rattle.sender.proofs.Pieces.{count_most}
use Rattle.sender.proofs.Lent.{misfitting, too_long, too_small, responded, numbered, without-payload, same_id}
use Rattle.sender.proofs.dispatch.Goals as goal
use Rattle.sender.proofs.dispatch.Goals.{Else-not_sendable}

fit : (c : Else-not_sendable) → not_sendable (call_of c.args.c c.args.payload.now) ≡ false
fit c = sym c.not_sendable.ensures ∙ c.if-not_sendable.false

-- what is known once the call may be sent
ranged : (c : Else-not_sendable) → InRange (call_of c.args.c c.args.payload.now)
ranged c = in-range (call_of c.args.c c.args.payload.now) (fit c)

pub returns-then-not_sendable : goal.returns-then-not_sendable
returns-then-not_sendable c =
    misfitting c.args.map.now c.requires (octets-all c.args.map.now (λ i. omega (arith, c.slice_known-1.given i))) (call_of c.args.c c.args.payload.now) c.args.out.now (length c.args.out.now) (sym c.not_sendable.ensures ∙ c.if-not_sendable.true)

pub returns-then-n-gt-PAYLOAD : goal.returns-then-n-gt-PAYLOAD
returns-then-n-gt-PAYLOAD c =
    too_long c.args.map.now c.requires (octets-all c.args.map.now (λ i. omega (arith, c.slice_known-1.given i))) (call_of c.args.c c.args.payload.now) c.args.out.now (length c.args.out.now) (fit (goal.at.returns-then-n-gt-PAYLOAD c).Else-not_sendable) c.if-n-gt-PAYLOAD.true

pub overflow_mul-frames : goal.overflow_mul-frames
overflow_mul-frames c =
    omega (arith, c.count-frames.ensures, count_most (length c.args.payload.now) c.if-n-gt-PAYLOAD.false)

pub returns-then-out-frames : goal.returns-then-out-frames
returns-then-out-frames c =
    too_small c.args.map.now c.requires (octets-all c.args.map.now (λ i. omega (arith, c.slice_known-1.given i))) (call_of c.args.c c.args.payload.now) c.args.out.now (length c.args.out.now) (fit (goal.at.returns-then-out-frames c).Else-not_sendable) c.if-n-gt-PAYLOAD.false (omega (arith, c.count-frames.ensures))

pub overflow_cast-transfer : goal.overflow_cast-transfer
overflow_cast-transfer c =
    omega (arith, (ranged (goal.at.overflow_cast-transfer c).Else-not_sendable).response c.if-c-eq2.true)

pub id-requires : goal.id-requires
id-requires c =
    without-payload c.args.c c.args.payload.now (ranged (goal.at.id-requires c).Else-not_sendable)

pub write-requires : goal.write-requires
write-requires c =
    ((ranged (goal.at.write-requires c).Else-not_sendable).response c.if-c-eq2.true, (c.if-n-gt-PAYLOAD.false, omega (arith, c.count-frames.ensures)))

pub returns-then-c-eq2 : goal.returns-then-c-eq2
returns-then-c-eq2 c =
    let f : ℕ → List ℕ = λ x. splice c.args.out.now 0 (records_of x (sent c.args.c.signature c.args.c.transfer_id c.args.payload.now)) in
    let o : c.write.new.out ≡ f c.id.result = c.write.ensures in
    responded c.args.map.now c.requires (octets-all c.args.map.now (λ i. omega (arith, c.slice_known-1.given i))) (call_of c.args.c c.args.payload.now) c.args.out.now (length c.args.out.now) (fit (goal.at.returns-then-c-eq2 c).Else-not_sendable) c.if-n-gt-PAYLOAD.false (omega (arith, c.count-frames.ensures)) c.if-c-eq2.true
    c.count-frames.result c.write.new.out c.count-frames.ensures (o ∙ ap f (c.id.ensures ∙ same_id c.args.c c.args.payload.now))

pub number-requires : goal.number-requires
number-requires c =
    record { ready = (c.requires, ranged (goal.at.number-requires c).Else-not_sendable); fits = (c.if-c-eq2.false, (c.if-n-gt-PAYLOAD.false, omega (arith, c.count-frames.ensures))) }

pub returns : goal.returns
returns c =
    numbered c.args.map.now c.requires (octets-all c.args.map.now (λ i. omega (arith, c.slice_known-1.given i))) (call_of c.args.c c.args.payload.now) c.args.out.now (length c.args.out.now) (fit (goal.at.returns c).Else-not_sendable) c.if-n-gt-PAYLOAD.false (omega (arith, c.count-frames.ensures)) c.if-c-eq2.false
    (returned c.number.result c.number.new.map c.number.new.out) c.number.ensures
