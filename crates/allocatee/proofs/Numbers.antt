-- A refusal of a message has the number that its description gives.
use mathlib.Core.Path.{◌≡◌, ap, ◌∙◌, subst}
use mathlib.Core.Bool.{true}
use mathlib.Core.List.{List}
use Prim.Native.Nat.{ℕ}
use borrow.Author.Tests.{eq-eqb}
use Rattle.bits.specs.Order.{unpack}
use Rattle.shape.specs.Answer.{refused}
use Rattle.shape.specs.Shape.{Values, decoded, encoded}
use Rattle.protocol_dynamic_node_id.specs.Allocation.{allocation}
use Rattle.allocator.proofs.Refusals.{Told, Small, small-read, small-write}
use Rattle.allocatee.specs.Answer.{number_of}
use Rattle.allocatee.specs.Calls.{on_read, heard, sent_as}
use Rattle.allocatee.specs.Laws.{RefusedByNumber}
use Rattle.allocatee.specs.Layout.{node_of, sound_state}
use Rattle.allocatee.specs.declared.Heard.{Heard}

by-message : (m : List ℕ) (q : Heard) (p : List ℕ) → sound_state m ≡ true → node_of m ≡ 0 → heard m q p ≡ on_read (decoded allocation p) m q
unfolding heard
by-message m q p s z = rw (s, eq-eqb (node_of m) 0 z)

read : (m : List ℕ) (q : Heard) (p : List ℕ) (n : ℕ) → sound_state m ≡ true → node_of m ≡ 0 → decoded allocation p ≡ refused n → number_of (heard m q p).answer ≡ n
read m q p n s z e =
    let t : Told n = subst Small e (small-read (unpack p)) in ap (λ x. number_of x.answer) (by-message m q p s z ∙ ap (λ r. on_read r m q) e) ∙ t.same

written : (v : Values allocation) (room n : ℕ) (m m' : List ℕ) (t : ℕ) (out : List ℕ) → encoded allocation v room ≡ refused n
    → number_of (sent_as (refused n) m m' t out).answer ≡ n
written v room n m m' t out e = let k : Told n = subst Small e (small-write v room) in k.same

pub refused-by-number : RefusedByNumber
refused-by-number = record { read = read; written = written }
