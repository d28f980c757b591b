-- RULES 15.2: worked values, as facts of the definitions. The first and the last allocation message of the log in 15.3.
-- `laws.rt` has a function whose contract they are.
use Rattle.std.specs.Prelude.{◌≡◌, List, [], ◌∷◌, ℕ, pos, negsuc}
use Rattle.shape.specs.Answer.{got}
use Rattle.shape.specs.Shape.{decoded, encoded}
use Rattle.protocol_dynamic_node_id.specs.Allocation.{allocation}

-- RULES 15.3: the unique ID in its three stages, 44 C0 8B 63 5E 05, F4 BC 10 96 DF 11, A8 BA 54 47
abbrev pub stage₁ : List ℕ → List ℕ
stage₁ rest = 68 ∷ 192 ∷ 139 ∷ 99 ∷ 94 ∷ 5 ∷ rest

abbrev pub unique_id : List ℕ
unique_id = stage₁ (244 ∷ 188 ∷ 16 ∷ 150 ∷ 223 ∷ 17 ∷ 168 ∷ 186 ∷ 84 ∷ 71 ∷ [])

pub record Samples : Type 0 where
  -- byte 0x01 and the first stage: no preferred node ID, the first part
  pub first : decoded allocation (1 ∷ stage₁ []) ≡ got (pos 0, (pos 1, stage₁ []))
  -- byte 0xFA and the whole: node ID 125
  pub last : encoded allocation (pos 125, (pos 0, unique_id)) 17 ≡ got (250 ∷ unique_id)
  -- RULES 9.14: 200 and -1 are written as 127 and 0
  pub clipped : encoded allocation (pos 200, (negsuc 0, [])) 1 ≡ got (254 ∷ [])
