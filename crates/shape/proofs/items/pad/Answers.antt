-- `items::pad` meets its contract: fewer than 8 bits, all zero.
use mathlib.Core.Path.{ap, ◌∙◌}
use mathlib.Core.Bool.{Bool}
use mathlib.Core.List.{List}
use Prim.Native.Nat.{◌-◌, ◌*◌}
use native.Mathlib.Omega.{arith}
use Rattle.bits.specs.Order.{bytes_for, store}
use Rattle.shape.proofs.ItemFacts.{zero_bits}
use Rattle.shape.proofs.items.pad.Goals as goal

pub returns : goal.returns
returns c =
    let a = c.args in
    let k = bytes_for a.at * 8 - a.at in
    c.write.ensures ∙ ap (λ (b : List Bool). store a.s.now a.at b) (zero_bits k (omega arith))
