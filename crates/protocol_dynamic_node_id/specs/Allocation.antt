-- RULES 10.3: Allocation. Node ID 7, first part 1, unique ID list of at most 16 bytes.
use Rattle.std.specs.Prelude.{ℕ, List, length, drop}
use Rattle.shape.specs.Answer.{Numbered, numbered, map_answer}
use Rattle.shape.specs.Shape.{Shape, uint, tail, Values, anything, decoded}
use Rattle.protocol_dynamic_node_id.specs.declared.allocation.Allocation.{Allocation}

abbrev pub allocation : Shape
allocation = uint 7 (uint 1 (tail 8 16 anything))

-- RULES 9.9: the unique ID as a part of the payload
abbrev pub unique_id_in : List ℕ → List ℕ
unique_id_in p = drop 1 p

abbrev pub allocation_of : Values allocation → Allocation
allocation_of (node, (first, unique)) = record { node_id = node; first_part_of_unique_id = first; unique_id = record { at = 1; len = length unique } }

-- what a payload gives
abbrev pub allocation_in : List ℕ → Numbered Allocation
allocation_in p = numbered (map_answer allocation_of (decoded allocation p))
