-- RULES 6.7: the checksum of a payload after bytes of it are rewritten.
use Rattle.std.specs.Prelude.{List, [], ◌∷◌, ℕ, ◌+◌, leb, length, replicate, Ok, Err}
use Rattle.std.specs.Int.Bits.{bit_xor}
use Rattle.checksum.specs.Crc.{crc_over}
use Rattle.checksum.specs.Crc16.{ccitt}
use Rattle.rules.specs.Limits.{payload_max}
use Rattle.rules.specs.Tests.{pick}
use Rattle.patch.specs.Answer.{Patched}
use Rattle.patch.specs.declared.PatchError.TheVariants.{TooLong}

-- the checksum c after one byte, with n behind it, became another: what their difference alone leaves in a register of 0
unfoldable pub patched : ℕ → ℕ → ℕ → ℕ → ℕ
patched c old new n = bit_xor c (crc_over ccitt 0 (bit_xor old new ∷ replicate n 0))

-- the call: in a payload of at most 512 bytes at most 511 are behind a byte
unfoldable pub patches : ℕ → ℕ → ℕ → ℕ → Patched
patches c old new n = pick (leb payload_max n) (Err TooLong) (Ok (patched c old new n))

-- several bytes side by side, one after the other, with n behind the last
unfoldable pub patched_field : ℕ → List ℕ → List ℕ → ℕ → ℕ
patched_field c [] new n = c
patched_field c (x ∷ old) [] n = c
patched_field c (x ∷ old) (y ∷ new) n = patched_field (patched c x y (length old + n)) old new n
