-- RULES 10.12: GetSet's request. Index 13, value, name list of at most 92.
use Rattle.std.specs.Prelude.{ℕ, ◌+◌, List, length, drop}
use Rattle.shape.specs.Answer.{Numbered, numbered, map_answer}
use Rattle.shape.specs.Shape.{Shape, uint, tail, Values, anything, decoded}
use Rattle.protocol_param.specs.Value.{union, case_of, size_of, text_in, size_at}
use Rattle.protocol_param.specs.declared.get_set_request.Request.{Request}

-- the name, last in request and response: any bytes
abbrev pub name_only : Shape
name_only = tail 8 92 anything

abbrev pub request : Shape
request = uint 13 (union 5 name_only)

-- RULES 9.9: text and name as parts of the payload; the tag is in its second byte
abbrev pub request_text_in : List ℕ → List ℕ
request_text_in p = text_in (drop 1 p)

unfoldable pub request_name_at : List ℕ → ℕ
request_name_at p = 1 + size_at 5 (drop 1 p)

abbrev pub request_name_in : List ℕ → List ℕ
request_name_in p = drop (request_name_at p) p

abbrev pub request_of : Values request → Request
request_of v =
    let x = case_of v.1.0 name_only v.1.1 in
    record {
      index = v.0;
      value = x.value;
      string_value = record { at = 3; len = length x.text };
      name = record { at = 1 + size_of x.value (length x.text); len = length x.rest };
    }

-- what a payload gives
abbrev pub request_in : List ℕ → Numbered Request
request_in p = numbered (map_answer request_of (decoded request p))
