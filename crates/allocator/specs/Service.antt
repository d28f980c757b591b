-- RULES 16.11, service: an allocatee that sends its three stages gets its unique ID back, and a node ID. `laws.rt` has a function whose contract it is.
use Rattle.std.specs.Prelude.{◌≡◌, true, false, List, ◌⊎◌, ℕ, ◌-◌, ◌^◌, ◌≤◌, ◌<◌, pos, length, take, drop}
use Rattle.std.proofs.Math.Option.{some}
use Rattle.bits.specs.Little.{le}
use Rattle.bits.specs.Order.{Octets}
use Rattle.bits.specs.Part.{span}
use Rattle.shape.specs.Answer.{got}
use Rattle.shape.specs.Shape.{decoded}
use Rattle.protocol_dynamic_node_id.specs.Allocation.{allocation}
use Rattle.allocator_table.specs.Layout.{gathered_count, time_of, table_of, sound_state}
use Rattle.allocator_table.specs.Limits.{unique_id_max, followup_timeout}
use Rattle.allocator_table.specs.Table.{node_of, is_givable, is_free}
use Rattle.allocator.specs.Allocate.{no_own}
use Rattle.allocator.specs.Calls.{Call, result_of, Reply}

-- a call with an anonymous message that has this first part and this part of the unique ID, and any preferred ID; there is room for the reply to k bytes
pub record Stage (c : Call) (first : ℕ) (part : List ℕ) (k : ℕ) : Type 0 where
  pub own : no_own c.request.reserved.own ≡ false
  pub anonymous : c.request.source ≡ 0
  -- as its type says
  pub time : c.request.time < 2 ^ 64
  pub prefers : ℕ
  pub message : decoded allocation c.payload ≡ got (pos prefers, (pos first, part))
  pub room : k < length c.out

-- the three stages of the unique ID u, one after the other
pub record Dialog (m u : List ℕ) (c₁ c₂ c₃ : Call) : Type 0 where
  pub sound : sound_state m ≡ true
  pub octets : Octets u
  pub whole : length u ≡ unique_id_max
  pub first : Stage c₁ 1 (take 6 u) 6
  pub second : Stage c₂ 0 (span u 6 6) 12
  pub third : Stage c₃ 0 (drop 12 u) 16
  -- RULES 16.4
  pub begins : (gathered_count m ≡ 0) ⊎ (followup_timeout < c₁.request.time - time_of m)
  pub then : c₂.request.time - c₁.request.time ≤ followup_timeout
  pub last : c₃.request.time - c₂.request.time ≤ followup_timeout
  -- it has an entry, or an ID is free
  pub possible : ((n : ℕ) → node_of (le u) (table_of m) ≡ some n → ⊥) → ((k : ℕ) → is_free c₃.request.reserved (table_of m) k ≡ false) → ⊥

pub record Served (m u : List ℕ) (c₁ c₂ c₃ : Call) : Type 0 where
  pub node : ℕ
  pub givable : is_givable node ≡ true
  pub first : Reply (result_of m c₁) 0 (take 6 u)
  pub second : Reply (result_of (result_of m c₁).state c₂) 0 (take 12 u)
  pub third : Reply (result_of (result_of (result_of m c₁).state c₂).state c₃) node u
  pub entered : node_of (le u) (table_of (result_of (result_of (result_of m c₁).state c₂).state c₃).state) ≡ some node

abbrev pub Service : Type 0
Service = (m u : List ℕ) (c₁ c₂ c₃ : Call) → Dialog m u c₁ c₂ c₃ → Served m u c₁ c₂ c₃
