-- RULES 6.5: the laws of the checksums. They speak of definitions alone; `laws.rt` has a function whose contract they are.
use Rattle.std.specs.Prelude.{◌≡◌, List, [], ◌∷◌, ℕ, length}
use Rattle.std.specs.Int.Bits.{bit_xor}
use Rattle.checksum.specs.Crc.{Crc, crc_over}
use Rattle.checksum.specs.Crc16.{ccitt, checksum}

-- the exclusive or of two inputs, byte by byte
unfoldable pub xors : List ℕ → List ℕ → List ℕ
xors [] q = []
xors (x ∷ p) [] = []
xors (x ∷ p) (y ∷ q) = bit_xor x y ∷ xors p q

-- every such check is linear under exclusive or; so the difference of two checksums is that of the payloads' difference, from 0
pub record LinearLaws : Type 0 where
  pub linear :
      (k : Crc) (c d : ℕ) (p q : List ℕ) → length p ≡ length q → crc_over k (bit_xor c d) (xors p q) ≡ bit_xor (crc_over k c p) (crc_over k d q)
  pub difference : (signature : ℕ) (p q : List ℕ) → length p ≡ length q → bit_xor (checksum signature p) (checksum signature q) ≡ crc_over ccitt 0 (xors p q)
  -- under one signature, then, it depends on the payloads' difference alone, and not on which signature that is
  pub depends : (s t : ℕ) (p q u v : List ℕ) → length p ≡ length q → length u ≡ length v → xors p q ≡ xors u v
      → bit_xor (checksum s p) (checksum s q) ≡ bit_xor (checksum t u) (checksum t v)
