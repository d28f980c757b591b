-- RULES 9.10: the return trips of GetSet and ExecuteOpcode, instances of the laws over every description; `laws.rt` has a function for them.
use Rattle.std.specs.Prelude.{◌≡◌, List, ℕ, pos, drop}
use Rattle.bits.specs.Order.{Octets, unpack, from_bits}
use Rattle.shape.specs.Shape.{Values, cleared}
use Rattle.shape.specs.Laws.{Trips, Never25}
use Rattle.protocol_param.specs.Value.{value_found}
use Rattle.protocol_param.specs.GetSetRequest.{name_only, request, request_name_in, request_of}
use Rattle.protocol_param.specs.GetSetResponse.{min_then, max_then, default_then, response, default_at, max_at, min_at, name_in, response_of}
use Rattle.protocol_param.specs.ExecuteOpcode as opcode

-- what is in a payload, values at their places and lists as the parts that `string_value`, `default_string_value` and `name` give
abbrev pub request_found : List ℕ → Values request
request_found p = (pos (from_bits 13 (unpack p)), value_found 5 name_only (drop 1 p) (request_name_in p))

abbrev pub response_found : List ℕ → Values response
response_found p =
    value_found 5 default_then p
    (value_found 5 max_then (drop (default_at p) p)
    (value_found 3 min_then (drop (max_at p) p)
    (value_found 3 name_only (drop (min_at p) p) (name_in p))))

abbrev pub opcode_request_found : List ℕ → Values opcode.opcode_request
opcode_request_found p = opcode.request_values (opcode.request_at (unpack p))

abbrev pub opcode_response_found : List ℕ → Values opcode.opcode_response
opcode_response_found p = opcode.response_values (opcode.response_at (unpack p))

pub record Laws : Type 0 where
  pub requests : Trips request request_of request_found
  pub responses : Trips response response_of response_found
  pub opcode-requests : Trips opcode.opcode_request opcode.request_of opcode_request_found
  pub opcode-responses : Trips opcode.opcode_response opcode.response_of opcode_response_found
  -- every bit is kept but the padding of GetSet's response
  pub whole-request : (p : List ℕ) → Octets p → cleared request p ≡ p
  pub whole-opcode-request : (p : List ℕ) → Octets p → cleared opcode.opcode_request p ≡ p
  pub whole-opcode-response : (p : List ℕ) → Octets p → cleared opcode.opcode_response p ≡ p
  -- RULES 9.4: all but ExecuteOpcode's response fill whole bytes
  pub never-25 : Never25 request × (Never25 response × Never25 opcode.opcode_request)
