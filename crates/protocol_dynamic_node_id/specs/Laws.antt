-- RULES 9.10: the return trip of Allocation, as an instance of the laws over every description. `laws.rt` has a function whose contract it is.
use Rattle.std.specs.Prelude.{◌≡◌, List, ℕ, pos, drop}
use Rattle.bits.specs.Order.{Octets, unpack, from_bits}
use Rattle.shape.specs.Shape.{Values, cleared}
use Rattle.shape.specs.Laws.{Trips, Never25}
use Rattle.protocol_dynamic_node_id.specs.Allocation.{allocation, unique_id_in, allocation_of}

-- what is in a payload, numbers at their places and the list as the part that `unique_id` gives
abbrev pub allocation_found : List ℕ → Values allocation
allocation_found p = (pos (from_bits 7 (unpack p)), (pos (from_bits 1 (drop 7 (unpack p))), unique_id_in p))

pub record Laws : Type 0 where
  pub allocations : Trips allocation allocation_of allocation_found
  -- every bit is kept
  pub whole-allocation : (p : List ℕ) → Octets p → cleared allocation p ≡ p
  -- RULES 9.4: it fills whole bytes
  pub never-25 : Never25 allocation
