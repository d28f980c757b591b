-- `number` meets its contract: no place is left, or an entry is stored and the records are written.
use mathlib.Core.Path.{◌≡◌, ap, ◌∙◌}
use mathlib.Core.List.{List}
use Prim.Native.Nat.{ℕ, ◌<◌}
use native.Mathlib.Omega.{arith}
use Rattle.bits.specs.Part.{splice}
use Rattle.bits.proofs.Octets.{octets-all}
use Rattle.id_map.specs.inside.Find.{place_or32}
use Rattle.id_map.specs.Layout.{map_of, slot_at, with_slot}
use Rattle.id_map.proofs.Soundness.{long-enough}
use Rattle.rules.specs.Map as rules
use Rattle.rules.specs.Map.{slot_for, used}
use Rattle.rules.specs.Sending.{topic_of, records_of}
use Rattle.rules.specs.Sent.{sent}
use Rattle.rules.specs.Session.{next}
use Rattle.sender.specs.Send.{call_of}
use Rattle.sender.proofs.Lent.{drawn-lt, no_place, stored, without-payload, same_id, key_in}
use Rattle.sender.proofs.number.Goals as goal
use Rattle.sender.proofs.number.Goals.{After-drawn-transfer, After-place-i}

-- the place is the call's
place_is : (c : After-place-i) → let k = call_of c.args.c c.args.payload.now in
    c.place-i.result ≡ place_or32 (slot_for (topic_of k) k.time (map_of c.args.map.now))
place_is c = c.place-i.ensures ∙ ap (λ t. place_or32 (slot_for t c.args.c.time (map_of c.args.map.now))) c.key_of-k.ensures.0

drawn-is : (c : After-drawn-transfer) → c.drawn-transfer.result ≡ rules.drawn (topic_of (call_of c.args.c c.args.payload.now)) (slot_at c.args.map.now c.place-i.result)
drawn-is c = c.drawn-transfer.ensures ∙ ap (λ t. rules.drawn t (slot_at c.args.map.now c.place-i.result)) c.key_of-k.ensures.0

small : (c : After-drawn-transfer) → c.drawn-transfer.result < 32
small c =
    let o = octets-all c.args.map.now (λ i. omega (arith, c.slice_known-1.given i)) in
    let l = drawn-lt c.args.map.now c.requires.ready.0 o (topic_of (call_of c.args.c c.args.payload.now)) c.place-i.result (omega arith) in
    omega (arith, drawn-is c)

pub key_of-k-requires : goal.key_of-k-requires
key_of-k-requires c = key_in (call_of c.args.c c.args.payload.now) c.requires.ready.1 c.requires.fits.0

pub place-i-requires : goal.place-i-requires
place-i-requires c = (long-enough c.args.map.now c.requires.ready.0, c.key_of-k.ensures.1)

pub returns-then-i-gt31 : goal.returns-then-i-gt31
returns-then-i-gt31 c =
    no_place c.args.map.now c.requires.ready.0 (octets-all c.args.map.now (λ i. omega (arith, c.slice_known-1.given i))) (call_of c.args.c c.args.payload.now) c.args.out.now c.place-i.result (place_is (goal.at.returns-then-i-gt31 c).After-place-i) c.if-i-gt31.true

pub drawn-transfer-requires : goal.drawn-transfer-requires
drawn-transfer-requires c =
    ((omega arith, long-enough c.args.map.now c.requires.ready.0), c.key_of-k.ensures.1)

pub overflow_add-transfer : goal.overflow_add-transfer
overflow_add-transfer c = omega (arith, small (goal.at.overflow_add-transfer c).After-drawn-transfer)

pub store-requires : goal.store-requires
store-requires c =
    ((omega arith, long-enough c.args.map.now c.requires.ready.0), c.key_of-k.ensures.1)

pub id-requires : goal.id-requires
id-requires c =
    without-payload c.args.c c.args.payload.now c.requires.ready.1

pub write-requires : goal.write-requires
write-requires c =
    (small (goal.at.write-requires c).After-drawn-transfer, (c.requires.fits.1.0, c.requires.fits.1.1))

pub returns : goal.returns
returns c =
    let r : ℕ → List ℕ = λ x. splice c.args.out.now 0 (records_of x (sent c.args.c.signature c.drawn-transfer.result c.args.payload.now)) in
    let o : c.write.new.out ≡ r c.id.result = c.write.ensures in
    stored c.args.map.now c.requires.ready.0 (octets-all c.args.map.now (λ i. omega (arith, c.slice_known-1.given i))) (call_of c.args.c c.args.payload.now) c.args.out.now c.place-i.result c.drawn-transfer.result c.count.result c.store.new.map c.write.new.out
    (place_is (goal.at.returns c).After-place-i) (omega arith) (drawn-is (goal.at.returns c).After-drawn-transfer)
    (c.store.ensures ∙ ap (λ x. with_slot c.args.map.now c.place-i.result (used x (next c.drawn-transfer.result) c.args.c.time)) c.key_of-k.ensures.0)
    c.count.ensures (o ∙ ap r (c.id.ensures ∙ same_id c.args.c c.args.payload.now))
