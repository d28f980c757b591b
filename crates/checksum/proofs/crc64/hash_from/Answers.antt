-- `crc64::hash_from` meets its contract.
use mathlib.Core.Path.{ap}
use Prim.Native.Nat.{ℕ}
use lib.Bits.{bit_xor}
use Rattle.checksum.specs.Signature.{hash_from}
use Rattle.checksum.proofs.crc64.hash_from.Goals as goal

pub returns : goal.returns
unfolding hash_from
returns c = ap (λ (r : ℕ). bit_xor r 0xFFFFFFFFFFFFFFFF) c.steps.ensures
