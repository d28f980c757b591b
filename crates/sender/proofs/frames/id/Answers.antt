-- `frames::id` meets its contract, case by case.
use mathlib.Core.Path.{◌≡◌, refl}
use mathlib.Core.Bool.{Bool, true, false}
use Prim.Native.Nat.{◌≤◌, ◌<◌}
use native.Mathlib.Omega.{arith}
use borrow.Author.Tests.{eq-eqb, ne_eqb}
use lib.Dec.{eqb}
use mir.Val.{bool_byte}
use Rattle.rules.specs.Sending.{anonymous_id}
use Rattle.rules.specs.Sent.{flag, id_of}
use Rattle.sender.proofs.frames.id.Goals as goal
use Rattle.sender.proofs.frames.id.Goals.{Else-c-eq0-2, Then-c-eq0, Then-c-eq0-2}

byte_flag : (b : Bool) → bool_byte b ≡ flag b
byte_flag true = refl
byte_flag false = refl

byte_le : (b : Bool) → bool_byte b ≤ 1
byte_le true = omega arith
byte_le false = omega arith

unnamed : (t : Then-c-eq0) → let o = t.args.c in (o.priority < 32) × ((o.discriminator < 16384) × (o.type_id < 4))
unnamed t =
    let r = t.requires in
    let a = r.anonymous t.if-c-eq0.true in
    (r.priority, (a.0, a.1.0))

message : (t : Then-c-eq0-2) → let o = t.args.c in (o.priority < 32) × ((o.type_id < 65536) × (o.own < 128))
message t =
    let r = t.requires in
    (r.priority, ((r.message t.if-c-eq0-2.true).0, r.own))

service : (t : Else-c-eq0-2) → let o = t.args.c in (o.priority < 32) × ((o.type_id < 256) × ((o.destination < 128) × (o.own < 128)))
service t =
    let r = t.requires in
    let k = r.service t.if-c-eq0-2.false in
    (r.priority, (k.0, (k.1.1, r.own)))

pub overflow_mul-priority : goal.overflow_mul-priority
overflow_mul-priority c = omega (arith, c.requires.priority)

pub overflow_mul-result : goal.overflow_mul-result
overflow_mul-result c = omega (arith, unnamed (goal.at.overflow_mul-result c).Then-c-eq0)

pub overflow_mul-result-then-c-eq0 : goal.overflow_mul-result-then-c-eq0
overflow_mul-result-then-c-eq0 c = omega (arith, unnamed (goal.at.overflow_mul-result-then-c-eq0 c).Then-c-eq0)

pub overflow_add-result : goal.overflow_add-result
overflow_add-result c = omega (arith, unnamed (goal.at.overflow_add-result c).Then-c-eq0)

pub overflow_add-result-then-c-eq0 : goal.overflow_add-result-then-c-eq0
overflow_add-result-then-c-eq0 c = omega (arith, unnamed (goal.at.overflow_add-result-then-c-eq0 c).Then-c-eq0)

pub returns-then-c-eq0 : goal.returns-then-c-eq0
unfolding anonymous_id
returns-then-c-eq0 c = rw (eq-eqb c.args.c.own 0 c.if-c-eq0.true)

pub overflow_mul-result-then-c-eq0-2 : goal.overflow_mul-result-then-c-eq0-2
overflow_mul-result-then-c-eq0-2 c = omega (arith, message (goal.at.overflow_mul-result-then-c-eq0-2 c).Then-c-eq0-2)

pub overflow_add-result-then-c-eq0-2 : goal.overflow_add-result-then-c-eq0-2
overflow_add-result-then-c-eq0-2 c = omega (arith, message (goal.at.overflow_add-result-then-c-eq0-2 c).Then-c-eq0-2)

pub overflow_add-result-then-c-eq0-2-2 : goal.overflow_add-result-then-c-eq0-2-2
overflow_add-result-then-c-eq0-2-2 c = omega (arith, message (goal.at.overflow_add-result-then-c-eq0-2-2 c).Then-c-eq0-2)

pub returns-then-c-eq0-2 : goal.returns-then-c-eq0-2
unfolding id_of
returns-then-c-eq0-2 c =
    let o = c.args.c in
    rw (ne_eqb o.own 0 c.if-c-eq0.false, eq-eqb o.transfer_type 0 c.if-c-eq0-2.true)

pub overflow_mul-result-2 : goal.overflow_mul-result-2
overflow_mul-result-2 c = omega (arith, service (goal.at.overflow_mul-result-2 c).Else-c-eq0-2)

pub overflow_mul-result-3 : goal.overflow_mul-result-3
overflow_mul-result-3 c = let b = byte_le (eqb c.args.c.transfer_type 1) in omega arith

pub overflow_mul-result-4 : goal.overflow_mul-result-4
overflow_mul-result-4 c = omega (arith, service (goal.at.overflow_mul-result-4 c).Else-c-eq0-2)

pub overflow_add-result-2 : goal.overflow_add-result-2
overflow_add-result-2 c = omega (arith, service (goal.at.overflow_add-result-2 c).Else-c-eq0-2)

pub overflow_add-result-3 : goal.overflow_add-result-3
overflow_add-result-3 c = omega (arith, service (goal.at.overflow_add-result-3 c).Else-c-eq0-2)

pub overflow_add-result-4 : goal.overflow_add-result-4
overflow_add-result-4 c = let b = byte_le (eqb c.args.c.transfer_type 1) in omega (arith, service (goal.at.overflow_add-result-4 c).Else-c-eq0-2)

pub overflow_add-result-5 : goal.overflow_add-result-5
overflow_add-result-5 c = let b = byte_le (eqb c.args.c.transfer_type 1) in omega (arith, service (goal.at.overflow_add-result-5 c).Else-c-eq0-2)

pub overflow_add-result-6 : goal.overflow_add-result-6
overflow_add-result-6 c = let b = byte_le (eqb c.args.c.transfer_type 1) in omega (arith, service (goal.at.overflow_add-result-6 c).Else-c-eq0-2)

pub returns : goal.returns
unfolding id_of
returns c =
    let o = c.args.c in
    rw (ne_eqb o.own 0 c.if-c-eq0.false, ne_eqb o.transfer_type 0 c.if-c-eq0-2.false, byte_flag (eqb o.transfer_type 1))
