-- RULES 10.13: GetSet's response. Value and default value, each after 5 bits of padding; maximum and minimum, each after 6; name list of at most 92.
use Rattle.std.specs.Prelude.{ℕ, ◌+◌, List, [], length, drop}
use Rattle.shape.specs.Answer.{Numbered, numbered, map_answer}
use Rattle.shape.specs.Shape.{Shape, void, Values, decoded}
use Rattle.protocol_param.specs.Value.{union, value_values, case_of, size_of, text_in, size_at}
use Rattle.protocol_param.specs.GetSetRequest.{name_only}
use Rattle.protocol_param.specs.declared.value.Value.{Value}
use Rattle.protocol_param.specs.declared.get_set_response.Response.{Response}

-- from the minimum on, from the maximum on, from the default value on
abbrev pub min_then : Shape
min_then = void 6 (union 3 name_only)

abbrev pub max_then : Shape
max_then = void 6 (union 3 min_then)

abbrev pub default_then : Shape
default_then = void 5 (union 5 max_then)

abbrev pub response : Shape
response = void 5 (union 5 default_then)

-- the values of what a writer is given; a text is beside each of the first two
abbrev pub response_values : Value → List ℕ → Value → List ℕ → Value → Value → List ℕ → Values response
response_values value text default other max min name =
    value_values value text 5 default_then (value_values default other 5 max_then (value_values max [] 3 min_then (value_values min [] 3 name_only name)))

-- RULES 9.9: where each begins, and the lists as parts of the payload
unfoldable pub default_at : List ℕ → ℕ
default_at p = size_at 5 p

unfoldable pub max_at : List ℕ → ℕ
max_at p = default_at p + size_at 5 (drop (default_at p) p)

unfoldable pub min_at : List ℕ → ℕ
min_at p = max_at p + size_at 3 (drop (max_at p) p)

unfoldable pub name_at : List ℕ → ℕ
name_at p = min_at p + size_at 3 (drop (min_at p) p)

abbrev pub default_text_in : List ℕ → List ℕ
default_text_in p = text_in (drop (default_at p) p)

abbrev pub name_in : List ℕ → List ℕ
name_in p = drop (name_at p) p

abbrev pub response_of : Values response → Response
response_of v =
    let a = case_of v.0 default_then v.1 in
    let b = case_of a.rest.0 max_then a.rest.1 in
    let c = case_of b.rest.0 min_then b.rest.1 in
    let d = case_of c.rest.0 name_only c.rest.1 in
    let default = size_of a.value (length a.text) in
    let max = default + size_of b.value (length b.text) in
    let min = max + size_of c.value (length c.text) in
    record {
      value = a.value;
      string_value = record { at = 2; len = length a.text };
      default_value = b.value;
      default_string_value = record { at = default + 2; len = length b.text };
      max_value = c.value;
      min_value = d.value;
      name = record { at = min + size_of d.value (length d.text); len = length d.rest };
    }

-- what a payload gives
abbrev pub response_in : List ℕ → Numbered Response
response_in p = numbered (map_answer response_of (decoded response p))
