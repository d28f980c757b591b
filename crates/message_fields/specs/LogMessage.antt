-- RULES 13.5, 10.5: LogMessage as a row.
use Rattle.std.specs.Prelude.{List, [], ◌∷◌, ℕ}
use Rattle.shape.specs.Answer.{Answer, map_answer}
use Rattle.shape.specs.Shape.{decoded, encoded}
use Rattle.protocol_debug.specs.LogMessage.{log_message, log_message_of}
use Rattle.protocol_debug.specs.declared.log_message.LogMessage.{LogMessage}
use Rattle.row.specs.Row.{word, place_words, count_at, given}

abbrev pub log_message_words : LogMessage → List ℕ
log_message_words x = word x.level ∷ place_words x.source (place_words x.text [])

abbrev pub log_message_in : List ℕ → Answer (List ℕ)
log_message_in p = map_answer log_message_words (map_answer log_message_of (decoded log_message p))

abbrev pub log_message_made : List ℕ → List ℕ → List ℕ → ℕ → Answer (List ℕ)
log_message_made ws source text room = given 5 ws (encoded log_message (count_at ws 0, (source, text)) room)
