-- RULES 6.7: what holds of a correction. p is the payload before what is rewritten, q the payload behind it.
use Rattle.std.specs.Prelude.{◌≡◌, List, ◌∷◌, ◌++◌, ℕ, ◌<◌, length}
use Rattle.std.specs.Int.Bits.{bit_xor}
use Rattle.checksum.specs.Crc16.{checksum}
use Rattle.rules.specs.Limits.{frame_payload}
use Rattle.rules.specs.Sent.{summed, carrying, sent}
use Rattle.patch.specs.Patch.{patched, patched_field}

pub record PatchLaws : Type 0 where
  -- it is the checksum worked out afresh, under every signature
  pub afresh : (signature old new : ℕ) (p q : List ℕ) → patched (checksum signature (p ++ old ∷ q)) old new (length q) ≡ checksum signature (p ++ new ∷ q)
  -- so is that of a whole field, byte by byte
  pub field : (signature : ℕ) (p old new q : List ℕ) → length old ≡ length new
      → patched_field (checksum signature (p ++ (old ++ q))) old new (length q) ≡ checksum signature (p ++ (new ++ q))
  -- a checksum that was wrong before is wrong afterwards, by the same bits
  pub error : (signature c old new : ℕ) (p q : List ℕ)
      → bit_xor (patched c old new (length q)) (checksum signature (p ++ new ∷ q)) ≡ bit_xor c (checksum signature (p ++ old ∷ q))
  -- frames that carry the corrected checksum and the new byte are those that the payload with the new byte is sent as
  pub frames : (signature old new t : ℕ) (p q : List ℕ) → frame_payload < length (p ++ new ∷ q)
      → carrying t (summed (patched (checksum signature (p ++ old ∷ q)) old new (length q)) (p ++ new ∷ q)) ≡ sent signature t (p ++ new ∷ q)
