-- RULES 10.5: LogMessage. Level 3, source list of at most 31, text list of at most 90.
use Rattle.std.specs.Prelude.{ℕ, ◌+◌, List, length, take, drop}
use Rattle.bits.specs.Order.{unpack, from_bits}
use Rattle.bits.specs.Width.{width_of}
use Rattle.shape.specs.Answer.{Numbered, numbered, map_answer}
use Rattle.shape.specs.Shape.{Shape, uint, list, tail, Values, anything, decoded}
use Rattle.protocol_debug.specs.declared.log_message.LogMessage.{LogMessage}

abbrev pub log_message : Shape
log_message = uint 3 (list 8 31 (tail 8 90 anything))

-- RULES 9.9: source and text as parts of the payload
unfoldable pub source_length : List ℕ → ℕ
source_length p = from_bits (width_of 31) (drop 3 (unpack p))

abbrev pub source_in : List ℕ → List ℕ
source_in p = take (source_length p) (drop 1 p)

abbrev pub text_in : List ℕ → List ℕ
text_in p = drop (1 + source_length p) p

abbrev pub log_message_of : Values log_message → LogMessage
log_message_of (level, (source, text)) =
    record { level = level; source = record { at = 1; len = length source }; text = record { at = 1 + length source; len = length text } }

-- what a payload gives
abbrev pub log_message_in : List ℕ → Numbered LogMessage
log_message_in p = numbered (map_answer log_message_of (decoded log_message p))
