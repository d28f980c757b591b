-- A refusal of a message has the number that its description gives.
use mathlib.Core.Path.{◌≡◌, ap, ◌∙◌, subst}
use mathlib.Core.Bool.{true, false}
use mathlib.Core.List.{List}
use Prim.Native.Nat.{ℕ}
use Rattle.bits.specs.Order.{unpack}
use Rattle.shape.specs.Answer.{refused}
use Rattle.shape.specs.Shape.{Values, decoded, encoded}
use Rattle.protocol_dynamic_node_id.specs.Allocation.{allocation}
use Rattle.allocator_table.specs.Layout.{sound_state}
use Rattle.allocator.specs.Allocate.{answered, on_message, no_own}
use Rattle.allocator.specs.Answer.{number_of}
use Rattle.allocator.specs.Calls.{Call, result_of}
use Rattle.allocator.specs.Laws.{RefusedByNumber}
use Rattle.allocator.proofs.Called.{by-message}
use Rattle.allocator.proofs.Refusals.{Told, Small, small-read, small-write}

read : (m : List ℕ) (c : Call) (n : ℕ) → sound_state m ≡ true → no_own c.request.reserved.own ≡ false → decoded allocation c.payload ≡ refused n
    → number_of (result_of m c).answer ≡ n
unfolding on_message
read m c n s o e =
    let t : Told n = subst Small e (small-read (unpack c.payload)) in
    ap (λ x. number_of x.answer) (by-message m c.request c.payload c.out s o ∙ ap (λ r. on_message r m c.request c.out) e) ∙ t.same

written : (v : Values allocation) (room n : ℕ) (m m' out : List ℕ) → encoded allocation v room ≡ refused n → number_of (answered (refused n) m m' out).answer ≡ n
written v room n m m' out e = let t : Told n = subst Small e (small-write v room) in t.same

pub refused-by-number : RefusedByNumber
refused-by-number = record { read = read; written = written }
