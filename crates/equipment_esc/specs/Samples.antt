-- RULES 15.2: worked values, as facts of the definitions. `laws.rt` has a function whose contract they are.
use Rattle.std.specs.Prelude.{◌≡◌, List, [], ◌∷◌, ℕ, ℤ, pos, negsuc}
use Rattle.shape.specs.Answer.{refused, got}
use Rattle.equipment_esc.specs.RawCommand.{commands, command_in, command_encoded}

-- -8192, 8191, -1 and 1; `negsuc n` is -(n + 1)
abbrev pub four : List ℤ
four = negsuc 8191 ∷ pos 8191 ∷ negsuc 0 ∷ pos 1 ∷ []

abbrev pub payload : List ℕ
payload = 0x00 ∷ 0x83 ∷ 0xFD ∷ 0xFF ∷ 0xFF ∷ 0xC0 ∷ 0x40 ∷ []

pub record Samples : Type 0 where
  pub read : command_in payload ≡ got (commands four)
  pub write : command_encoded (commands four) 7 ≡ got payload
  -- one number and two bits of padding: zero, and not zero
  pub one : command_in (1 ∷ 0 ∷ []) ≡ got (commands (pos 1 ∷ []))
  pub padding : command_in (1 ∷ 1 ∷ []) ≡ refused 25
  -- a byte holds no number and is left over
  pub byte : command_in (0 ∷ []) ≡ refused 16
  -- a byte left over after a number, which comes before padding
  pub left : command_in (1 ∷ 1 ∷ 1 ∷ []) ≡ refused 16
  -- RULES 9.14: -8193, 8192, -2^63 and 2^63 - 1 are written as -8192, 8191, -8192 and 8191
  pub clipped : command_encoded (commands (negsuc 8192 ∷ pos 8192 ∷ negsuc 9223372036854775807 ∷ pos 9223372036854775807 ∷ [])) 7
      ≡ command_encoded (commands (negsuc 8191 ∷ pos 8191 ∷ negsuc 8191 ∷ pos 8191 ∷ [])) 7
  -- a count is not clipped
  pub count : command_encoded (record { count = 21; cmd = (commands []).cmd }) 35 ≡ refused 17
