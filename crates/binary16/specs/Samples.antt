-- RULES 15.2: some patterns, as facts of the definitions. `laws.rt` has a function whose contract they are.
use Rattle.std.specs.Prelude.{◌≡◌}
use Rattle.binary16.specs.Convert.{widened, narrowed}

pub record Samples : Type 0 where
  -- coming in: 1, the smallest, the largest subnormal one, 65504, -0, an infinity, a NaN with a sign
  pub one : widened 0x3C00 ≡ 0x3F800000
  pub smallest : widened 0x0001 ≡ 0x33800000
  pub subnormal : widened 0x03FF ≡ 0x387FC000
  pub largest : widened 0x7BFF ≡ 0x477FE000
  pub minus-zero : widened 0x8000 ≡ 0x80000000
  pub infinity : widened 0xFC00 ≡ 0xFF800000
  pub nan : widened 0xFFFF ≡ 0x7FC00000
  -- going out: the two ties next to 1
  pub tie_down : narrowed 0x3F801000 ≡ 0x3C00
  pub tie_up : narrowed 0x3F803000 ≡ 0x3C02
  -- half the smallest, a tie to 0, and the next f32
  pub half-smallest : narrowed 0x33000000 ≡ 0x0000
  pub above_half : narrowed 0x33000001 ≡ 0x0001
  -- a carry from the largest subnormal one to the smallest normal one
  pub carried : narrowed 0x387FE000 ≡ 0x0400
  -- the last below 65520, and 65520
  pub below-limit : narrowed 0x477FEFFF ≡ 0x7BFF
  pub at-limit : narrowed 0x477FF000 ≡ 0x7BFF
  -- the ends of the f32 below 0, an infinity, a NaN with a sign and a payload
  pub least-out : narrowed 0x80000001 ≡ 0x8000
  pub most-out : narrowed 0xFF7FFFFF ≡ 0xFBFF
  pub infinity-out : narrowed 0xFF800000 ≡ 0xFC00
  pub nan-out : narrowed 0xFF800001 ≡ 0x7E00
