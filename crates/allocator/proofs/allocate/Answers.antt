-- `allocate` meets its contract: the refusals in order, then the message.
use mathlib.Core.Path.{◌≡◌, sym, ap, ◌∙◌}
use mathlib.Core.Bool.{true, false}
use mathlib.Core.List.{List}
use Prim.Native.Nat.{ℕ, ◌≤◌, ◌<◌}
use native.Mathlib.Omega.{arith}
use borrow.Author.Tests.{eq-eqb, ne_eqb, lt-ltb, le-ltb}
use Rattle.bits.proofs.Octets.{octets-all}
use Rattle.std.specs.Prelude.{Err}
use Rattle.shape.specs.Answer.{Answer, refused, got, number_of}
use Rattle.shape.specs.declared.answer.Refusal.{Refusal}
use Rattle.shape.specs.Shape.{Values, decoded}
use Rattle.protocol_dynamic_node_id.specs.Allocation.{allocation, unique_id_in}
use Rattle.allocator_table.specs.Layout.{sound_state}
use Rattle.allocator.specs.Allocate.{returned, performs, Fields, fields_of, decide, on_message, allocated}
use Rattle.allocator.specs.Stage.{joined}
use Rattle.allocator.specs.declared.Request.{Request}
use Rattle.allocator.specs.declared.answer.AllocateError.TheVariants.{OwnId, Message, Faulty}
use Rattle.allocator.proofs.Messages.{same_refusal, casts, cast_is, read-refused, node-held, first-held, read-got}
use Rattle.allocator.proofs.allocate.Goals as goal

module _ (m : List ℕ) (q : Request) (p out : List ℕ) where
  faulty : sound_state m ≡ false → returned (Err Faulty) m out ≡ allocated m q p out
  unfolding allocated
  faulty s = rw s

  module _ (s : sound_state m ≡ true) where
    own-none : q.reserved.own ≡ 0 → returned (Err OwnId) m out ≡ allocated m q p out
    unfolding allocated
    own-none z = rw (s, eq-eqb q.reserved.own 0 z)

    module _ (z : q.reserved.own ≡ 0 → ⊥) where
      own-large : 127 < q.reserved.own → returned (Err OwnId) m out ≡ allocated m q p out
      unfolding allocated
      own-large l = rw (s, ne_eqb q.reserved.own 0 z, lt-ltb 127 q.reserved.own l)

      by-message : q.reserved.own ≤ 127 → on_message (decoded allocation p) m q out ≡ allocated m q p out
      unfolding allocated
      by-message l = rw (s, ne_eqb q.reserved.own 0 z, le-ltb 127 q.reserved.own l)

-- the two cases of a message
unread : (r : Refusal) (x : Answer (Values allocation)) (m : List ℕ) (q : Request) (out : List ℕ) → x ≡ refused (number_of r) → returned (Err (Message r)) m out ≡ on_message x m q out
unfolding on_message
unread r x m q out e = rw e (ap (λ (y : Refusal). returned (Err (Message y)) m out) (sym (same_refusal r)))

read : (v : Values allocation) (x : Answer (Values allocation)) (m : List ℕ) (q : Request) (out : List ℕ) → x ≡ got v
    → performs (decide m q (fields_of v)) m q.time (joined m q.time v.1.1) out ≡ on_message x m q out
unfolding on_message
read v x m q out e = rw e

fields : {n n' f f' : ℕ} {u u' : List ℕ} → n ≡ n' → f ≡ f' → u ≡ u' → ◌≡◌ {A = Fields} (n, (f, u)) (n', (f', u'))
fields a b c = cc

pub returns-then-not-is_sound : goal.returns-then-not-is_sound
returns-then-not-is_sound c = let a = c.args in faulty a.state.now a.q a.payload.now a.out.now (sym c.is_sound.ensures ∙ c.if-not-is_sound.true)

pub returns-then-reserved-eq0 : goal.returns-then-reserved-eq0
returns-then-reserved-eq0 c =
    let a = c.args in
    own-none a.state.now a.q a.payload.now a.out.now (sym c.is_sound.ensures ∙ c.if-not-is_sound.false) c.if-reserved-eq0.true

pub returns-then-reserved-gt127 : goal.returns-then-reserved-gt127
returns-then-reserved-gt127 c =
    let a = c.args in
    own-large a.state.now a.q a.payload.now a.out.now (sym c.is_sound.ensures ∙ c.if-not-is_sound.false) c.if-reserved-eq0.false c.if-reserved-gt127.true

pub overflow_cast-a : goal.overflow_cast-a
overflow_cast-a c =
    let p = c.args.payload.now in
    let x = c.in-Ok.a in
    casts x.node_id (node-held p c.decode.result c.decode.ensures (octets-all p (λ i. omega (arith, c.shared_slice_known-1.given i))) x c.in-Ok.is)

pub overflow_cast-a-in-Ok : goal.overflow_cast-a-in-Ok
overflow_cast-a-in-Ok c =
    let p = c.args.payload.now in
    let x = c.in-Ok.a in
    casts x.first_part_of_unique_id (first-held p c.decode.result c.decode.ensures (octets-all p (λ i. omega (arith, c.shared_slice_known-1.given i))) x c.in-Ok.is)

pub message-requires : goal.message-requires
message-requires c = sym c.is_sound.ensures ∙ c.if-not-is_sound.false

pub returns-in-Err : goal.returns-in-Err
returns-in-Err c =
    let a = c.args in
    unread c.in-Err.r (decoded allocation a.payload.now) a.state.now a.q a.out.now
    (read-refused a.payload.now c.decode.result c.decode.ensures c.in-Err.r c.in-Err.is)
    ∙ by-message a.state.now a.q a.payload.now a.out.now (sym c.is_sound.ensures ∙ c.if-not-is_sound.false) c.if-reserved-eq0.false (omega arith)

pub returns-in-Ok : goal.returns-in-Ok
returns-in-Ok c =
    let a = c.args in
    let p = a.payload.now in
    let x = c.in-Ok.a in
    let o = octets-all p (λ i. omega (arith, c.shared_slice_known-1.given i)) in
    let node = cast_is x.node_id (node-held p c.decode.result c.decode.ensures o x c.in-Ok.is) in
    let first = cast_is x.first_part_of_unique_id (first-held p c.decode.result c.decode.ensures o x c.in-Ok.is) in
    c.message.ensures
    ∙ ap (λ (v : Fields). performs (decide a.state.now a.q v) a.state.now a.q.time (joined a.state.now a.q.time v.1.1) a.out.now) (fields node first c.unique_id.ensures)
    ∙ read (x.node_id, (x.first_part_of_unique_id, unique_id_in p)) (decoded allocation p) a.state.now a.q a.out.now (read-got p c.decode.result c.decode.ensures o x c.in-Ok.is)
    ∙ by-message a.state.now a.q p a.out.now (sym c.is_sound.ensures ∙ c.if-not-is_sound.false) c.if-reserved-eq0.false (omega arith)
