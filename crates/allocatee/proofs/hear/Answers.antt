-- `hear` meets its contract.
use native.Mathlib.Omega.{arith}
use mathlib.Core.Path.{◌≡◌, refl, sym, ap, ap₂, ◌∙◌}
use mathlib.Core.Bool.{true}
use mathlib.Core.List.{List}
use Prim.Native.Nat.{ℕ}
use Rattle.bits.proofs.Octets.{octets-all}
use Rattle.std.specs.Prelude.{Ok, Err}
use Rattle.protocol_dynamic_node_id.specs.Allocation.{unique_id_in}
use Rattle.allocator.proofs.Messages.{casts, cast_is, read-refused, node-held, read-got}
use Rattle.allocatee.specs.Calls.{state, on_message}
use Rattle.allocatee.specs.Layout.{sound_state}
use Rattle.allocatee.specs.declared.answer.AllocateeError.TheVariants.{Message}
use Rattle.allocatee.proofs.Hearing.{heard-faulty, heard-has, heard-refused, heard-read}
use Rattle.allocatee.proofs.Reading.{few, node-below}
use Rattle.allocatee.proofs.Sending.{handed-on}
use Rattle.allocatee.proofs.Views.{long-enough}
use Rattle.allocatee.proofs.hear.Goals as goal

pub returns-then-not-is_sound : goal.returns-then-not-is_sound
returns-then-not-is_sound c =
    let a = c.args in
    heard-faulty a.bytes.now a.q a.payload.now (sym c.is_sound.ensures ∙ c.if-not-is_sound.true)

pub node-node-requires : goal.node-node-requires
node-node-requires c =
    let a = c.args in
    let m = a.bytes.now in
    let s : sound_state m ≡ true = sym c.is_sound.ensures ∙ c.if-not-is_sound.false in
    long-enough m s

pub returns-then-node-ne0 : goal.returns-then-node-ne0
returns-then-node-ne0 c =
    let a = c.args in
    let m = a.bytes.now in
    let s : sound_state m ≡ true = sym c.is_sound.ensures ∙ c.if-not-is_sound.false in
    heard-has m a.q a.payload.now s c.node-node.result c.node-node.ensures.0 c.if-node-ne0.true

pub overflow_cast-a : goal.overflow_cast-a
overflow_cast-a c =
    let p = c.args.payload.now in
    let x = c.in_ok-a.a in
    let o = octets-all p (λ i. omega (arith, c.type_inv.payload i)) in
    casts x.node_id (node-held p (Ok x) c.in_ok-a.ensures o x refl)

pub message-requires : goal.message-requires
message-requires c =
    let m = c.args.bytes.now in
    let p = c.args.payload.now in
    let x = c.in_ok-a.a in
    let o = octets-all p (λ i. omega (arith, c.type_inv.payload i)) in
    let s : sound_state m ≡ true = sym c.is_sound.ensures ∙ c.if-not-is_sound.false in
    let h = node-held p (Ok x) c.in_ok-a.ensures o x refl in
    let g = read-got p (Ok x) c.in_ok-a.ensures o x refl in
    (long-enough m s, (rw c.unique_id.ensures (few p o _ g), rw (cast_is x.node_id h) (node-below p o _ g)))

pub returns-in_err-a : goal.returns-in_err-a
returns-in_err-a c =
    let a = c.args in
    let m = a.bytes.now in
    let p = a.payload.now in
    let s : sound_state m ≡ true = sym c.is_sound.ensures ∙ c.if-not-is_sound.false in
    let r = c.from_residual in
    let y = c.in_err-a.field-0.0 in
    ap (λ x. state x m) (handed-on r.result (Message y) r.ensures.1)
    ∙ heard-refused m a.q p s c.node-node.result c.node-node.ensures.0 c.if-node-ne0.false y (read-refused p (Err y) c.in_err-a.ensures y refl)

pub returns : goal.returns
returns c =
    let a = c.args in
    let m = a.bytes.now in
    let p = a.payload.now in
    let x = c.in_ok-a.a in
    let o = octets-all p (λ i. omega (arith, c.type_inv.payload i)) in
    let s : sound_state m ≡ true = sym c.is_sound.ensures ∙ c.if-not-is_sound.false in
    let h = node-held p (Ok x) c.in_ok-a.ensures o x refl in
    c.message.ensures ∙ ap₂ (λ (i : ℕ) (u : List ℕ). on_message m a.q i u) (cast_is x.node_id h) c.unique_id.ensures
    ∙ heard-read m a.q p s c.node-node.result c.node-node.ensures.0 c.if-node-ne0.false (x.node_id, (x.first_part_of_unique_id, unique_id_in p)) (read-got p (Ok x) c.in_ok-a.ensures o x refl)
