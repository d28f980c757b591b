-- RULES 15.1: the sample values, as one list and one claim.
use Rattle.std.specs.Prelude.{◌≡◌, List, [], ◌∷◌, ◌++◌, map, ℕ, length, replicate}
use Rattle.bits.specs.Order.{to_bits, pack}
use Rattle.checksum.specs.Crc.{crc_over}
use Rattle.checksum.specs.Crc16.{ccitt}
use Rattle.rules.specs.Frame.{stream_of, priority_of}
use Rattle.rules.specs.Sent.{sent}
use Rattle.rules.specs.Session.{distance}

-- numbers that a definition gives, and the numbers that RULES 15.1 prints
pub record Sample : Type 0 where
  pub value : List ℕ
  pub paper : List ℕ

abbrev pub is : ℕ → ℕ → Sample
is a b = record { value = a ∷ []; paper = b ∷ [] }

-- the number of frames for n payload bytes
abbrev pub frames : ℕ → ℕ
frames n = length (sent 0 0 (replicate n 0))

abbrev pub samples : List Sample
samples =
    is (distance 0 0) 0 ∷
    is (distance 0 1) 1 ∷
    is (distance 0 7) 7 ∷
    is (distance 7 7) 0 ∷
    is (distance 31 30) 31 ∷
    is (distance 31 0) 1 ∷
    -- "123456789"
    is (crc_over ccitt 0xFFFF (0x31 ∷ 0x32 ∷ 0x33 ∷ 0x34 ∷ 0x35 ∷ 0x36 ∷ 0x37 ∷ 0x38 ∷ 0x39 ∷ [])) 0x29B1 ∷
    is (frames 7) 1 ∷
    is (frames 8) 2 ∷
    is (frames 12) 2 ∷
    is (frames 13) 3 ∷
    is (frames 512) 74 ∷
    is (priority_of 0x1E000101) 30 ∷
    is (stream_of 0x1E000101).type 1 ∷
    is (stream_of 0x1E000101).source 1 ∷
    record { value = pack (to_bits 12 0xEDA ++ to_bits 4 5); paper = 0xDA ∷ 0xE5 ∷ [] } ∷ []

abbrev pub Samples : Type 0
Samples = map (λ s. s.value) samples ≡ map (λ s. s.paper) samples
