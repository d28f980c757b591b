-- RULES 10.14, 10.15: ExecuteOpcode. Request: opcode 8, argument signed 48. Response: argument signed 48, ok 1, and seven bits left over.
use Rattle.std.specs.Prelude.{Bool, List, ℕ, pos, drop}
use Rattle.bits.specs.Order.{from_bits}
use Rattle.shape.specs.Answer.{Numbered, numbered, map_answer}
use Rattle.shape.specs.Cast.{signed, saturated}
use Rattle.shape.specs.Signed.{signed_of}
use Rattle.shape.specs.Shape.{Shape, end, num, uint, Values, decoded}
use Rattle.protocol_param.specs.declared.execute_opcode_request.Request.{Request}
use Rattle.protocol_param.specs.declared.execute_opcode_response.Response.{Response}

abbrev pub opcode_request : Shape
opcode_request = uint 8 (num signed saturated 48 end)

abbrev pub opcode_response : Shape
opcode_response = num signed saturated 48 (uint 1 end)

abbrev pub request_values : Request → Values opcode_request
request_values x = (x.opcode, (x.argument, tt))

abbrev pub request_of : Values opcode_request → Request
request_of (opcode, (argument, rest)) = record { opcode = opcode; argument = argument }

abbrev pub response_values : Response → Values opcode_response
response_values x = (x.argument, (x.ok, tt))

abbrev pub response_of : Values opcode_response → Response
response_of (argument, (ok, rest)) = record { argument = argument; ok = ok }

-- what a payload gives
abbrev pub request_in : List ℕ → Numbered Request
request_in p = numbered (map_answer request_of (decoded opcode_request p))

abbrev pub response_in : List ℕ → Numbered Response
response_in p = numbered (map_answer response_of (decoded opcode_response p))

-- at the places of the fields
unfoldable pub request_at : List Bool → Request
request_at bs = record { opcode = pos (from_bits 8 bs); argument = signed_of 48 (from_bits 48 (drop 8 bs)) }

unfoldable pub response_at : List Bool → Response
response_at bs = record { argument = signed_of 48 (from_bits 48 bs); ok = pos (from_bits 1 (drop 48 bs)) }
