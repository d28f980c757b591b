-- RULES 21.7: what holds of an allocatee. `laws.rt` has a function for each, whose contract it is.
use Rattle.std.specs.Prelude.{◌≡◌, true, List, ◌⊎◌, ℕ, suc, ◌-◌, ◌^◌, ◌≤◌, ◌<◌, nat_abs, length}
use Rattle.bits.specs.Order.{Octets}
use Rattle.shape.specs.Answer.{refused, got}
use Rattle.shape.specs.Shape.{Values, decoded, encoded}
use Rattle.protocol_dynamic_node_id.specs.Allocation.{allocation}
use Rattle.allocatee.specs.Answer.{number_of}
use Rattle.allocatee.specs.Calls.{begins, heard, sent_as, requests, polled}
use Rattle.allocatee.specs.Layout.{unique_of, node_of, pending_of, since_of, sound_state}
use Rattle.allocatee.specs.Limits.{unique_id_max, request_max}
use Rattle.allocatee.specs.declared.Heard.{Heard}

-- a message that was read, from a named node
pub record Named (q : Heard) (p : List ℕ) : Type 0 where
  pub source : q.source ≡ 0 → ⊥
  pub values : Values allocation
  pub read : decoded allocation p ≡ got values

-- it has every byte of the own unique ID, and the node ID n, which is not 0
pub record Grants (m : List ℕ) (q : Heard) (p : List ℕ) (n : ℕ) : Type 0 where
  pub named : Named q p
  pub unique : named.values.1.1 ≡ unique_of m
  pub node : nat_abs named.values.0 ≡ n
  pub some : n ≡ 0 → ⊥

-- an ID is taken from such a message alone, and kept
pub record TakesItsOwn : Type 0 where
  pub by-message : (m : List ℕ) (q : Heard) (p : List ℕ) → sound_state m ≡ true → node_of m ≡ 0
      → (node_of (heard m q p).bytes ≡ 0) ⊎ Grants m q p (node_of (heard m q p).bytes)
  pub not-by-time : (m : List ℕ) (t x : ℕ) (out : List ℕ) → node_of (polled m t x out).bytes ≡ node_of m
  pub kept : (m : List ℕ) (q : Heard) (p : List ℕ) → sound_state m ≡ true → (node_of m ≡ 0 → ⊥) → (heard m q p).bytes ≡ m

-- it has k bytes, which begin the own unique ID and are not all of it
pub record Confirms (m : List ℕ) (q : Heard) (p : List ℕ) (k : ℕ) : Type 0 where
  pub named : Named q p
  pub prefix : begins named.values.1.1 (unique_of m) ≡ true
  pub bytes : length named.values.1.1 ≡ k
  pub part : k < unique_id_max

-- a follow-up becomes pending by such a message alone: any other that is read drops it, and one that is not read leaves it; a call on time starts none
pub record FollowsItsOwn : Type 0 where
  pub by-message : (m : List ℕ) (q : Heard) (p : List ℕ) (k : ℕ) → sound_state m ≡ true → pending_of (heard m q p).bytes ≡ suc k
      → ((heard m q p).bytes ≡ m) ⊎ ((node_of (heard m q p).bytes ≡ 0 → ⊥) ⊎ Confirms m q p k)
  pub not-by-time : (m : List ℕ) (t x : ℕ) (out : List ℕ) → sound_state m ≡ true → (pending_of (polled m t x out).bytes ≡ 0) ⊎ (pending_of (polled m t x out).bytes ≡ pending_of m)

-- with nobody that answers: from a million microseconds after the last request on, a call sends the next one, and the time counts from there
pub record Idle (m : List ℕ) : Type 0 where
  pub sound : sound_state m ≡ true
  pub no_node : node_of m ≡ 0
  pub none-pending : pending_of m ≡ 0
  -- as its type says
  pub octets : Octets (unique_of m)

pub record Asked (m : List ℕ) (t x : ℕ) (out : List ℕ) : Type 0 where
  pub request : polled m t x out ≡ requests m t x out
  pub idle : Idle (polled m t x out).bytes
  pub since : since_of (polled m t x out).bytes ≡ t

abbrev pub AsksAgain : Type 0
AsksAgain = (m : List ℕ) (t x : ℕ) (out : List ℕ) → Idle m → request_max ≤ length out → t < 2 ^ 64 → 1000000 ≤ t - since_of m → Asked m t x out

-- RULES 21.3, 21.4: the refusal of a message that cannot be read, and of one that cannot be written, has the number that the description gives
pub record RefusedByNumber : Type 0 where
  pub read : (m : List ℕ) (q : Heard) (p : List ℕ) (n : ℕ) → sound_state m ≡ true → node_of m ≡ 0 → decoded allocation p ≡ refused n → number_of (heard m q p).answer ≡ n
  pub written : (v : Values allocation) (room n : ℕ) (m m' : List ℕ) (t : ℕ) (out : List ℕ) → encoded allocation v room ≡ refused n
      → number_of (sent_as (refused n) m m' t out).answer ≡ n
