-- RULES 15.2: worked values of both cast modes (RULES 9.14), and widths of tags (RULES 9.15), as facts of the definitions. `laws.rt` has a
-- function whose contract they are.
use Rattle.std.specs.Prelude.{◌≡◌, [], ◌∷◌, pos, negsuc}
use Rattle.shape.specs.Answer.{got}
use Rattle.shape.specs.Cast.{Cast, unsigned, signed, saturated, truncated}
use Rattle.shape.specs.Shape.{Shape, end, num, uint, tag_width, decoded, encoded}

-- GlobalTimeSync (message 4), no type of ours: one field, `truncated uint56`
abbrev pub time_sync : Shape
time_sync = num unsigned truncated 56 end

-- one signed number of 8 bits
abbrev pub signed_byte : Cast → Shape
signed_byte c = num signed c 8 end

pub record Samples : Type 0 where
  -- truncated: 2^56 + 5 is written as 5, -1 as 56 ones
  pub time-high : encoded time_sync (pos 72057594037927941, tt) 7 ≡ got (5 ∷ 0 ∷ 0 ∷ 0 ∷ 0 ∷ 0 ∷ 0 ∷ [])
  pub time-low : encoded time_sync (negsuc 0, tt) 7 ≡ got (255 ∷ 255 ∷ 255 ∷ 255 ∷ 255 ∷ 255 ∷ 255 ∷ [])
  -- saturated: the same numbers are written as 2^56 - 1 and 0
  pub saturated-high : encoded (uint 56 end) (pos 72057594037927941, tt) 7 ≡ got (255 ∷ 255 ∷ 255 ∷ 255 ∷ 255 ∷ 255 ∷ 255 ∷ [])
  pub saturated-low : encoded (uint 56 end) (negsuc 0, tt) 7 ≡ got (0 ∷ 0 ∷ 0 ∷ 0 ∷ 0 ∷ 0 ∷ 0 ∷ [])
  -- signed, saturated: 200 and -200 are written as 127 and -128
  pub signed_high : encoded (signed_byte saturated) (pos 200, tt) 1 ≡ got (127 ∷ [])
  pub signed_low : encoded (signed_byte saturated) (negsuc 199, tt) 1 ≡ got (128 ∷ [])
  -- signed, truncated: as -56 and 56
  pub cut_high : encoded (signed_byte truncated) (pos 200, tt) 1 ≡ got (200 ∷ [])
  pub cut-high-read : decoded (signed_byte truncated) (200 ∷ []) ≡ got (negsuc 55, tt)
  pub cut_low : encoded (signed_byte truncated) (negsuc 199, tt) 1 ≡ got (56 ∷ [])
  -- two cases take one bit, three and four take two, five to eight take three
  pub two : tag_width 2 ≡ 1
  pub three-four : (tag_width 3 ≡ 2) × (tag_width 4 ≡ 2)
  pub five-eight : (tag_width 5 ≡ 3) × (tag_width 8 ≡ 3)
  pub nine : tag_width 9 ≡ 4
