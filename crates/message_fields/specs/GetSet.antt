-- RULES 13.5, 10.11 to 10.13: the value of a parameter, and GetSet's request and response, as rows.
use Rattle.std.specs.Prelude.{List, [], ◌∷◌, ◌++◌, ℕ, ◌+◌, get_or}
use Rattle.shape.specs.Answer.{Answer, map_answer}
use Rattle.shape.specs.Shape.{decoded, encoded}
use Rattle.protocol_param.specs.Value.{value_of_tag, value_values}
use Rattle.protocol_param.specs.GetSetRequest.{name_only, request, request_of}
use Rattle.protocol_param.specs.GetSetResponse.{response, response_of, response_values}
use Rattle.protocol_param.specs.declared.get_set_request.Request.{Request}
use Rattle.protocol_param.specs.declared.get_set_response.Response.{Response}
use Rattle.protocol_param.specs.declared.value.Value.{Value}
use Rattle.protocol_param.specs.declared.value.Value.TheVariants.{Empty, Integer, Real, Boolean, Text, Unknown}
use Rattle.row.specs.Row.{word, place_words, count_at, number_at, given}

-- ── a value: its tag, and its number, 0 for a case without one; the words of its text follow ──

abbrev pub value_words : Value → List ℕ
value_words Empty = 0 ∷ 0 ∷ []
value_words (Integer z) = 1 ∷ word z ∷ []
value_words (Real x) = 2 ∷ x ∷ []
value_words (Boolean z) = 3 ∷ word z ∷ []
value_words Text = 4 ∷ 0 ∷ []
value_words Unknown = 5 ∷ 0 ∷ []

-- from the i-th word on; a real of 2^32 or more is no float: its 32 bits do not hold it, and the answer is 17
abbrev pub value_from : List ℕ → ℕ → Value
value_from ws i = value_of_tag (count_at ws i) (number_at ws (i + 1)) (get_or ws (i + 1) 0) (count_at ws (i + 1))

-- ── request ──

abbrev pub request_words : Request → List ℕ
request_words x = word x.index ∷ (value_words x.value ++ place_words x.string_value (place_words x.name []))

abbrev pub request_in : List ℕ → Answer (List ℕ)
request_in p = map_answer request_words (map_answer request_of (decoded request p))

abbrev pub request_made : List ℕ → List ℕ → List ℕ → ℕ → Answer (List ℕ)
request_made ws text name room = given 7 ws (encoded request (count_at ws 0, value_values (value_from ws 1) text 5 name_only name) room)

-- ── response ──

abbrev pub response_words : Response → List ℕ
response_words x =
    value_words x.value ++ place_words x.string_value
    (value_words x.default_value ++ place_words x.default_string_value
    (value_words x.max_value ++ (value_words x.min_value ++ place_words x.name [])))

abbrev pub response_in : List ℕ → Answer (List ℕ)
response_in p = map_answer response_words (map_answer response_of (decoded response p))

abbrev pub response_made : List ℕ → List ℕ → List ℕ → List ℕ → ℕ → Answer (List ℕ)
response_made ws text other name room =
    given 14 ws (encoded response (response_values (value_from ws 0) text (value_from ws 4) other (value_from ws 8) (value_from ws 10) name) room)
