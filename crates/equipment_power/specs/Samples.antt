-- RULES 15.2: worked values, as facts of the definitions. `laws.rt` has a function whose contract they are.
use Rattle.std.specs.Prelude.{◌≡◌, List, [], ◌∷◌, ℕ, pos, negsuc}
use Rattle.shape.specs.Answer.{got}
use Rattle.shape.specs.Shape.{Values, decoded, encoded}
use Rattle.equipment_power.specs.BatteryInfo.{battery_info}

-- 300 K, 22.203125 V, -1.5 A, 33.3125 W, 40 Wh, 100 Wh, no time to full charge known (NaN), in use and charging, health unknown, 40 percent
-- charged, to 2 percent, battery 1, model 305419896, "LiPo"
abbrev pub pack : Values battery_info
pack =
    (0x5CB0, (0x4D8D, (0xBE00, (0x502A, (0x5100, (0x5640, (0x7E00, (pos 3, (pos 127, (pos 40, (pos 2, (pos 1, (pos 0x12345678, 76 ∷ 105 ∷ 80 ∷ 111 ∷ [])))))))))))))

abbrev pub payload : List ℕ
payload =
    0xB0 ∷ 0x5C ∷ 0x8D ∷ 0x4D ∷ 0x00 ∷ 0xBE ∷ 0x2A ∷ 0x50 ∷ 0x00 ∷ 0x51 ∷ 0x40 ∷ 0x56 ∷ 0x00 ∷ 0x7E
    ∷ 0x03 ∷ 0x1F ∷ 0xD4 ∷ 0x02 ∷ 0x01 ∷ 0x78 ∷ 0x56 ∷ 0x34 ∷ 0x12 ∷ 76 ∷ 105 ∷ 80 ∷ 111 ∷ []

pub record Samples : Type 0 where
  pub battery-info : decoded battery_info payload ≡ got pack
  pub battery-info-back : encoded battery_info pack 27 ≡ got payload
  -- RULES 9.14: 4095, 200, -1, 128, 300 and 2^32 are written as 2047, 127, 0, 127, 255 and 2^32 - 1; the floats' bits stay
  pub clipped : encoded battery_info
      (0, (0, (0, (0, (0, (0, (0xFFFF, (pos 4095, (pos 200, (negsuc 0, (pos 128, (pos 300, (pos 4294967296, []))))))))))))) 23
      ≡ got (0 ∷ 0 ∷ 0 ∷ 0 ∷ 0 ∷ 0 ∷ 0 ∷ 0 ∷ 0 ∷ 0 ∷ 0 ∷ 0 ∷ 0xFF ∷ 0xFF ∷ 0xFF ∷ 0xFF ∷ 0xC0 ∷ 0x7F ∷ 0xFF ∷ 0xFF ∷ 0xFF ∷ 0xFF ∷ 0xFF ∷ [])
