-- `field::write_bytes` meets its contract: bytes in their place are their bits in theirs.
use mathlib.Core.Path.{refl, ◌∙◌}
use native.Mathlib.Omega.{arith}
use lib.ListN.{length}
use Rattle.bits.proofs.Octets.{octets-all}
use Rattle.bits.proofs.Splice.{mid-splice}
use Rattle.bits.proofs.Window.{splice-store}
use Rattle.bits.proofs.field.write_bytes.Goals as goal

pub returns : goal.returns
returns c =
    let a = c.args in
    mid-splice a.s.now c.copy.new.dst a.src.now a.at (length a.src.now) c.copy.ensures refl
    ∙ splice-store a.s.now a.at a.src.now (octets-all a.s.now (λ i. omega (arith, c.slice_known-1.given i)))
    (octets-all a.src.now (λ i. omega (arith, c.type_inv.src i))) (omega arith)
