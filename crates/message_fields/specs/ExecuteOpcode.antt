-- RULES 13.5, 10.14, 10.15: ExecuteOpcode's request and response as rows.
use Rattle.std.specs.Prelude.{List, [], ◌∷◌, ℕ}
use Rattle.shape.specs.Answer.{Answer, map_answer}
use Rattle.shape.specs.Shape.{decoded, encoded}
use Rattle.protocol_param.specs.ExecuteOpcode.{opcode_request, opcode_response, request_values, request_of, response_values, response_of}
use Rattle.protocol_param.specs.declared.execute_opcode_request.Request.{Request}
use Rattle.protocol_param.specs.declared.execute_opcode_response.Response.{Response}
use Rattle.row.specs.Row.{word, count_at, number_at, given}

abbrev pub request_words : Request → List ℕ
request_words x = word x.opcode ∷ word x.argument ∷ []

abbrev pub request_in : List ℕ → Answer (List ℕ)
request_in p = map_answer request_words (map_answer request_of (decoded opcode_request p))

abbrev pub request_from : List ℕ → Request
request_from ws = record { opcode = count_at ws 0; argument = number_at ws 1 }

abbrev pub request_made : List ℕ → ℕ → Answer (List ℕ)
request_made ws room = given 2 ws (encoded opcode_request (request_values (request_from ws)) room)

abbrev pub response_words : Response → List ℕ
response_words x = word x.argument ∷ word x.ok ∷ []

abbrev pub response_in : List ℕ → Answer (List ℕ)
response_in p = map_answer response_words (map_answer response_of (decoded opcode_response p))

abbrev pub response_from : List ℕ → Response
response_from ws = record { argument = number_at ws 0; ok = count_at ws 1 }

abbrev pub response_made : List ℕ → ℕ → Answer (List ℕ)
response_made ws room = given 2 ws (encoded opcode_response (response_values (response_from ws)) room)
