-- RULES 16.11: lists of calls on one state, and what a caller reads of a reply.
use Rattle.std.specs.Prelude.{◌≡◌, true, false, List, [], ◌∷◌, ℕ, pos, length, take, Some, Ok}
use Rattle.std.proofs.Math.Option.{none}
use Rattle.bits.specs.Little.{le}
use Rattle.shape.specs.Answer.{got}
use Rattle.shape.specs.Shape.{decoded}
use Rattle.protocol_dynamic_node_id.specs.Allocation.{allocation}
use Rattle.allocator_table.specs.Layout.{table_of, sound_state}
use Rattle.allocator_table.specs.Limits.{unique_id_max}
use Rattle.allocator_table.specs.Table.{node_of, is_free}
use Rattle.allocator.specs.Allocate.{Result, no_own, allocated}
use Rattle.allocator.specs.Stage.{accepts, kept_at, joined}
use Rattle.allocator.specs.declared.Request.{Request}

pub record Call : Type 0 where
  pub request : Request
  pub payload : List ℕ
  pub out : List ℕ

abbrev pub result_of : List ℕ → Call → Result
result_of m c = allocated m c.request c.payload c.out

-- each call gets the state that the last one left
unfoldable pub after_calls : List ℕ → List Call → List ℕ
after_calls m [] = m
after_calls m (c ∷ cs) = after_calls (result_of m c).state cs

-- the reply is an Allocation message with the node ID n, first part 0 and the unique ID g, at the front of the output buffer
pub record Reply (r : Result) (n : ℕ) (g : List ℕ) : Type 0 where
  pub len : ℕ
  pub answer : r.answer ≡ Ok (Some len)
  pub message : decoded allocation (take len r.out) ≡ got (pos n, (pos 0, g))

-- a call that completes the unique ID g, which prefers the node ID p
pub record Completes (m : List ℕ) (c : Call) (g : List ℕ) (p : ℕ) : Type 0 where
  pub sound : sound_state m ≡ true
  pub own : no_own c.request.reserved.own ≡ false
  pub anonymous : c.request.source ≡ 0
  pub first : ℕ
  pub part : List ℕ
  pub message : decoded allocation c.payload ≡ got (pos p, (pos first, part))
  pub expected : accepts first (length part) (kept_at m c.request.time) ≡ true
  pub whole : length g ≡ unique_id_max
  pub is : joined m c.request.time part ≡ g

-- it is new, and no node ID is free
pub record NoneFree (m : List ℕ) (c : Call) (g : List ℕ) : Type 0 where
  pub new : node_of (le g) (table_of m) ≡ none
  pub taken : (k : ℕ) → is_free c.request.reserved (table_of m) k ≡ false
