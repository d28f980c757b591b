-- `raw_command::write_patterns` meets its contract: items, then zeros.
use mathlib.Core.Path.{◌≡◌, ap, ◌∙◌}
use mathlib.Core.Bool.{false}
use Prim.Native.Nat.{ℕ, ◌*◌, ◌-◌}
use native.Mathlib.Nat.{sub-zero}
use native.Mathlib.Omega.{arith}
use lib.ListN.{length, take, replicate}
use lib.Seq.{length-take-le}
use Rattle.bits.specs.Order.{bytes_for, store}
use Rattle.shape.specs.Shape.{item_bits}
use Rattle.shape.proofs.Fields.{length-item_bits}
use Rattle.shape.proofs.Writing.{more}
use Rattle.equipment_esc.proofs.raw_command.write_patterns.Goals as goal

pub returns : goal.returns
returns c =
    let a = c.args in
    let n = a.n in
    let xs = take n a.p in
    let l : length (item_bits 14 xs) ≡ n * 14 = length-item_bits 14 xs ∙ ap (λ (k : ℕ). k * 14) (length-take-le n a.p (omega arith)) in
    more a.out.now c.write.new.s c.pad.new.s (item_bits 14 xs) (replicate (bytes_for (n * 14) * 8 - n * 14) false) (n * 14)
    (c.write.ensures ∙ ap (λ (k : ℕ). store a.out.now 0 (item_bits 14 (take k a.p))) (sub-zero n)) l (omega arith) c.pad.ensures
