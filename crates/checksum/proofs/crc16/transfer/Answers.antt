-- `crc16::transfer` meets its contract: the signature's bytes, then the payload.
use mathlib.Core.Path.{◌≡◌, sym, ap, ◌∙◌}
use mathlib.Core.List.{List}
use Prim.Native.Nat.{ℕ}
use Rattle.checksum.specs.Crc.{crc_over}
use Rattle.checksum.specs.Crc16.{ccitt, checksum}
use Rattle.bits.specs.Little.{le_bytes}
use Rattle.checksum.proofs.Linear.{over-append}
use Rattle.checksum.proofs.crc16.transfer.Goals as goal

-- the two calls, one after the other
both : (sig r s : ℕ) (p : List ℕ) → s ≡ crc_over ccitt 0xFFFF (le_bytes 8 sig) → r ≡ crc_over ccitt s p → r ≡ checksum sig p
unfolding checksum
both sig r s p e f = f ∙ ap (λ (z : ℕ). crc_over ccitt z p) e ∙ sym (over-append ccitt 0xFFFF (le_bytes 8 sig) p)

pub returns : goal.returns
returns c = both _ _ _ _ c.signed-c.ensures c.steps.ensures
