-- RULES 10.4: KeyValue. Float32 kept as its 32 bits, key list of at most 58.
use Rattle.std.specs.Prelude.{ℕ, List, length, drop}
use Rattle.shape.specs.Answer.{Numbered, numbered, map_answer}
use Rattle.shape.specs.Shape.{Shape, raw, tail, Values, anything, decoded}
use Rattle.protocol_debug.specs.declared.key_value.KeyValue.{KeyValue}

abbrev pub key_value : Shape
key_value = raw 32 (tail 8 58 anything)

-- RULES 9.9: the key as a part of the payload
abbrev pub key_in : List ℕ → List ℕ
key_in p = drop 4 p

abbrev pub key_value_of : Values key_value → KeyValue
key_value_of (value, key) = record { value = value; key = record { at = 4; len = length key } }

-- what a payload gives
abbrev pub key_value_in : List ℕ → Numbered KeyValue
key_value_in p = numbered (map_answer key_value_of (decoded key_value p))
