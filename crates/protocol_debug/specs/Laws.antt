-- RULES 9.10: the return trips of KeyValue and LogMessage, instances of the laws over every description; `laws.rt` has a function for them.
use Rattle.std.specs.Prelude.{◌≡◌, List, ℕ, pos}
use Rattle.bits.specs.Order.{Octets, unpack, from_bits}
use Rattle.shape.specs.Shape.{Values, cleared}
use Rattle.shape.specs.Laws.{Trips, Never25}
use Rattle.protocol_debug.specs.KeyValue.{key_value, key_in, key_value_of}
use Rattle.protocol_debug.specs.LogMessage.{log_message, source_in, text_in, log_message_of}

-- what is in a payload, numbers at their places and lists as the parts that `key`, `source` and `text` give
abbrev pub key_value_found : List ℕ → Values key_value
key_value_found p = (from_bits 32 (unpack p), key_in p)

abbrev pub log_message_found : List ℕ → Values log_message
log_message_found p = (pos (from_bits 3 (unpack p)), (source_in p, text_in p))

pub record Laws : Type 0 where
  pub key-values : Trips key_value key_value_of key_value_found
  pub log-messages : Trips log_message log_message_of log_message_found
  -- every bit is kept
  pub whole-key-value : (p : List ℕ) → Octets p → cleared key_value p ≡ p
  pub whole-log-message : (p : List ℕ) → Octets p → cleared log_message p ≡ p
  -- RULES 9.4: they fill whole bytes
  pub never-25 : Never25 key_value × Never25 log_message
