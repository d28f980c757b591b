-- RULES 13.5, 10.3: Allocation as a row.
use Rattle.std.specs.Prelude.{List, [], ◌∷◌, ℕ}
use Rattle.shape.specs.Answer.{Answer, map_answer}
use Rattle.shape.specs.Shape.{decoded, encoded}
use Rattle.protocol_dynamic_node_id.specs.Allocation.{allocation, allocation_of}
use Rattle.protocol_dynamic_node_id.specs.declared.allocation.Allocation.{Allocation}
use Rattle.row.specs.Row.{word, place_words, count_at, given}

abbrev pub allocation_words : Allocation → List ℕ
allocation_words x = word x.node_id ∷ word x.first_part_of_unique_id ∷ place_words x.unique_id []

abbrev pub allocation_in : List ℕ → Answer (List ℕ)
allocation_in p = map_answer allocation_words (map_answer allocation_of (decoded allocation p))

abbrev pub allocation_made : List ℕ → List ℕ → ℕ → Answer (List ℕ)
allocation_made ws unique room = given 4 ws (encoded allocation (count_at ws 0, (count_at ws 1, unique)) room)
