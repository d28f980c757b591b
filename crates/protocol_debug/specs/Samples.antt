-- RULES 10.4, 10.5: worked values, as facts of the definitions. `laws.rt` has a function whose contract they are.
use Rattle.std.specs.Prelude.{◌≡◌, List, [], ◌∷◌, ℕ, pos, negsuc}
use Rattle.shape.specs.Answer.{got}
use Rattle.shape.specs.Shape.{decoded, encoded}
use Rattle.protocol_debug.specs.KeyValue.{key_value}
use Rattle.protocol_debug.specs.LogMessage.{log_message}

-- "temp", "ab" and "hot" in ASCII
abbrev pub temp : List ℕ
temp = 116 ∷ 101 ∷ 109 ∷ 112 ∷ []

abbrev pub ab : List ℕ
ab = 97 ∷ 98 ∷ []

abbrev pub hot : List ℕ
hot = 104 ∷ 111 ∷ 116 ∷ []

pub record Samples : Type 0 where
  -- 00 00 C8 41 is 25.0 as a float, low byte first
  pub key-value : decoded key_value (0 ∷ 0 ∷ 200 ∷ 65 ∷ temp) ≡ got (1103626240, temp)
  pub key-value-back : encoded key_value (1103626240, temp) 8 ≡ got (0 ∷ 0 ∷ 200 ∷ 65 ∷ temp)
  -- the first byte is the level in three bits and the source's length in five: 2 and 2
  pub log-message : decoded log_message (66 ∷ 97 ∷ 98 ∷ hot) ≡ got (pos 2, (ab, hot))
  pub log-message-back : encoded log_message (pos 2, (ab, hot)) 6 ≡ got (66 ∷ 97 ∷ 98 ∷ hot)
  -- RULES 9.14: a level of 8 is written as 7, one of -1 as 0
  pub high : encoded log_message (pos 8, (ab, hot)) 6 ≡ got (226 ∷ 97 ∷ 98 ∷ hot)
  pub low : encoded log_message (negsuc 0, (ab, hot)) 6 ≡ got (2 ∷ 97 ∷ 98 ∷ hot)
