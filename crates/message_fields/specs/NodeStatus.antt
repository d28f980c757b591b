-- RULES 13.5, 10.2: NodeStatus as a row.
use Rattle.std.specs.Prelude.{List, [], ◌∷◌, ℕ}
use Rattle.shape.specs.Answer.{Answer, map_answer}
use Rattle.shape.specs.Shape.{end, decoded, encoded}
use Rattle.protocol.specs.NodeStatus.{node_status, status_of, status_values}
use Rattle.protocol.specs.declared.node_status.NodeStatus.{NodeStatus}
use Rattle.row.specs.Row.{word, count_at, given}

abbrev pub status_words : NodeStatus → List ℕ
status_words x = word x.uptime_sec ∷ word x.health ∷ word x.mode ∷ word x.sub_mode ∷ word x.vendor_specific_status_code ∷ []

abbrev pub status_from : List ℕ → NodeStatus
status_from ws =
    record {
      uptime_sec = count_at ws 0;
      health = count_at ws 1;
      mode = count_at ws 2;
      sub_mode = count_at ws 3;
      vendor_specific_status_code = count_at ws 4;
    }

-- what a payload gives, and what a row
abbrev pub status_in : List ℕ → Answer (List ℕ)
status_in p = map_answer status_words (map_answer (status_of end) (decoded node_status p))

abbrev pub status_made : List ℕ → ℕ → Answer (List ℕ)
status_made ws room = given 5 ws (encoded node_status (status_values (status_from ws) end tt) room)
