-- RULES 15.2: worked values, as facts of the definitions. `laws.rt` has a function whose contract they are.
use Rattle.std.specs.Prelude.{◌≡◌, List, [], ◌∷◌, ℕ, pos, negsuc}
use Rattle.shape.specs.Answer.{refused, got}
use Rattle.shape.specs.Shape.{decoded, encoded}
use Rattle.protocol_param.specs.GetSetRequest.{request}
use Rattle.protocol_param.specs.GetSetResponse.{response, response_values}
use Rattle.protocol_param.specs.ExecuteOpcode.{opcode_request, opcode_response}
use Rattle.protocol_param.specs.declared.value.Value.TheVariants.{Empty, Integer, Real, Boolean, Unknown}

-- "ab" and "on" in ASCII
abbrev pub ab : List ℕ
ab = 97 ∷ 98 ∷ []

abbrev pub on : List ℕ
on = 111 ∷ 110 ∷ []

pub record Samples : Type 0 where
  -- index 0, the integer -2
  pub integer : decoded request (0 ∷ 1 ∷ 254 ∷ 255 ∷ 255 ∷ 255 ∷ 255 ∷ 255 ∷ 255 ∷ 255 ∷ ab) ≡ got (pos 0, (1, (negsuc 1, ab)))
  -- index 8191, the text `on`, which has its length before it
  pub text : decoded request (255 ∷ 252 ∷ 2 ∷ 111 ∷ 110 ∷ ab) ≡ got (pos 8191, (4, (on, ab)))
  pub text-back : encoded request (pos 8191, (4, (on, ab))) 7 ≡ got (255 ∷ 252 ∷ 2 ∷ 111 ∷ 110 ∷ ab)
  -- tags that no case has
  pub five : decoded request (255 ∷ 253 ∷ []) ≡ refused 27
  pub seven : decoded request (255 ∷ 255 ∷ []) ≡ refused 27
  -- the integer 5, by default the boolean 1, at most the real 10.0, at least nothing
  pub response-back : encoded response (response_values (Integer (pos 5)) [] (Boolean (pos 1)) [] (Real 1092616192) Empty ab) 19
      ≡ got (1 ∷ 5 ∷ 0 ∷ 0 ∷ 0 ∷ 0 ∷ 0 ∷ 0 ∷ 0 ∷ 3 ∷ 1 ∷ 2 ∷ 0 ∷ 0 ∷ 32 ∷ 65 ∷ 0 ∷ ab)
  -- all padding bits set
  pub response-padded : decoded response (249 ∷ 5 ∷ 0 ∷ 0 ∷ 0 ∷ 0 ∷ 0 ∷ 0 ∷ 0 ∷ 251 ∷ 1 ∷ 254 ∷ 0 ∷ 0 ∷ 32 ∷ 65 ∷ 252 ∷ ab)
      ≡ got (response_values (Integer (pos 5)) [] (Boolean (pos 1)) [] (Real 1092616192) Empty ab)
  -- of the maximum and minimum a boolean is no case, whatever else is wrong
  pub no-case : encoded response (response_values Empty [] Empty [] (Boolean (pos 1)) Empty ab) 0 ≡ refused 27
  pub unknown : encoded response (response_values Unknown [] Empty [] Empty Empty ab) 0 ≡ refused 27
  pub opcode-request : encoded opcode_request (pos 1, (negsuc 0, tt)) 7 ≡ got (1 ∷ 255 ∷ 255 ∷ 255 ∷ 255 ∷ 255 ∷ 255 ∷ [])
  pub opcode-response : decoded opcode_response (254 ∷ 255 ∷ 255 ∷ 255 ∷ 255 ∷ 255 ∷ 128 ∷ []) ≡ got (negsuc 1, (pos 1, tt))
  pub left_over : decoded opcode_response (254 ∷ 255 ∷ 255 ∷ 255 ∷ 255 ∷ 255 ∷ 129 ∷ []) ≡ refused 25
