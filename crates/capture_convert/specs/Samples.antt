-- RULES 18.8: sample values, by computing.
use Rattle.std.specs.Prelude.{◌≡◌, [], ◌∷◌}
use Rattle.rules.specs.Sent.{frame_at}
use Rattle.capture_convert.specs.Capture.{capture_of}

pub record Samples : Type 0 where
  pub none : capture_of [] ≡ 0 ∷ 0 ∷ 0 ∷ 0 ∷ 0 ∷ 0 ∷ 0 ∷ 0 ∷ 0 ∷ 0 ∷ 0 ∷ 0 ∷ 0xFF ∷ 0xFF ∷ 0x43 ∷ 0x54 ∷ []
  pub least : capture_of (frame_at 0x1E000101 [] 0 ∷ [])
      ≡ 0 ∷ 0 ∷ 0 ∷ 0 ∷ 0 ∷ 0 ∷ 0 ∷ 0 ∷ 0x01 ∷ 0x01 ∷ 0 ∷ 0x1E ∷ 0 ∷ 0 ∷ 0 ∷ 0 ∷ 0 ∷ 0 ∷ 0 ∷ 0 ∷ 0 ∷
      21 ∷ 0 ∷ 0 ∷ 0 ∷ 0 ∷ 0 ∷ 0 ∷ 0 ∷ 1 ∷ 0 ∷ 0 ∷ 0 ∷ 0xAD ∷ 0xDC ∷ 0x43 ∷ 0x54 ∷ []
  pub most : capture_of (frame_at 0xFFFFFFFF (1 ∷ 2 ∷ 3 ∷ 4 ∷ 5 ∷ 6 ∷ 7 ∷ 8 ∷ []) 999999999999000 ∷ [])
      ≡ 0x18 ∷ 0x7C ∷ 0xC6 ∷ 0xA4 ∷ 0x7E ∷ 0x8D ∷ 0x03 ∷ 0 ∷ 0xFF ∷ 0xFF ∷ 0xFF ∷ 0xFF ∷ 8 ∷ 1 ∷ 2 ∷ 3 ∷ 4 ∷ 5 ∷ 6 ∷ 7 ∷ 8 ∷
      21 ∷ 0 ∷ 0 ∷ 0 ∷ 0 ∷ 0 ∷ 0 ∷ 0 ∷ 1 ∷ 0 ∷ 0 ∷ 0 ∷ 0x79 ∷ 0x86 ∷ 0x43 ∷ 0x54 ∷ []
