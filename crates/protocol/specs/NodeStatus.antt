-- RULES 10.2: NodeStatus. Uptime 32, health 2, mode 3, sub-mode 3, vendor code 16.
use Rattle.std.specs.Prelude.{ℕ, Bool, List, pos, drop}
use Rattle.bits.specs.Order.{from_bits}
use Rattle.shape.specs.Answer.{Numbered, numbered, map_answer}
use Rattle.shape.specs.Shape.{Shape, end, uint, void, Values, decoded}
use Rattle.protocol.specs.declared.node_status.NodeStatus.{NodeStatus}

-- a status, and what follows it; sub-mode is an ignored field (RULES 9.8)
abbrev pub status_then : Shape → Shape
status_then d = uint 32 (uint 2 (uint 3 (void 3 (uint 16 d))))

abbrev pub node_status : Shape
node_status = status_then end

-- the struct's values; sub-mode may have any, since none is written
abbrev pub status_values : NodeStatus → (d : Shape) → Values d → Values (status_then d)
status_values x d rest = (x.uptime_sec, (x.health, (x.mode, (x.vendor_specific_status_code, rest))))

abbrev pub status_of : (d : Shape) → Values (status_then d) → NodeStatus
status_of d (uptime, (health, (mode, (vendor, rest)))) =
    record { uptime_sec = uptime; health = health; mode = mode; sub_mode = pos 0; vendor_specific_status_code = vendor }

-- what a payload gives
abbrev pub status_in : List ℕ → Numbered NodeStatus
status_in p = numbered (map_answer (status_of end) (decoded node_status p))

-- the status at the front of bits
unfoldable pub status_at : List Bool → NodeStatus
status_at bs =
    record {
      uptime_sec = pos (from_bits 32 bs);
      health = pos (from_bits 2 (drop 32 bs));
      mode = pos (from_bits 3 (drop 34 bs));
      sub_mode = pos 0;
      vendor_specific_status_code = pos (from_bits 16 (drop 40 bs));
    }
