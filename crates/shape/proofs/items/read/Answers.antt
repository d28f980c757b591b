-- `items::read` meets its contract. The invariant: the first i places hold the first i items.
use mathlib.Core.Path.{refl}
use native.Mathlib.Numerals.{add-one}
use native.Mathlib.Omega.{arith}
use Rattle.bits.specs.Order.{unpack}
use Rattle.shape.specs.Shape.{items_of}
use Rattle.shape.proofs.ItemFacts.{read-turn}
use Rattle.shape.proofs.items.read.Goals as goal

pub loop-i-init : goal.loop-i-init
unfolding items_of
loop-i-init c = refl

pub loop-i-preserved : goal.loop-i-preserved
loop-i-preserved c =
    let a = c.args in
    rw add-one (read-turn (unpack a.s.now) a.at a.w c.loop-i.out c.loop-i.i c.read.result (omega arith) c.loop-i.invariant c.read.ensures)
