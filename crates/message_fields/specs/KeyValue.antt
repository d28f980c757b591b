-- RULES 13.5, 10.4: KeyValue as a row.
use Rattle.std.specs.Prelude.{List, [], ◌∷◌, ℕ, get_or}
use Rattle.shape.specs.Answer.{Answer, map_answer}
use Rattle.shape.specs.Shape.{decoded, encoded}
use Rattle.protocol_debug.specs.KeyValue.{key_value, key_value_of}
use Rattle.protocol_debug.specs.declared.key_value.KeyValue.{KeyValue}
use Rattle.row.specs.Row.{place_words, given}

abbrev pub key_value_words : KeyValue → List ℕ
key_value_words x = x.value ∷ place_words x.key []

abbrev pub key_value_in : List ℕ → Answer (List ℕ)
key_value_in p = map_answer key_value_words (map_answer key_value_of (decoded key_value p))

-- a value of 2^32 or more is no float: its 32 bits do not hold it, and the answer is 17
abbrev pub key_value_made : List ℕ → List ℕ → ℕ → Answer (List ℕ)
key_value_made ws key room = given 3 ws (encoded key_value (get_or ws 0 0, key) room)
