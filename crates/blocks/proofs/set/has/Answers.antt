-- `set::has` meets its contract.
use mathlib.Core.Path.{ap}
use Prim.Native.Nat.{ℕ}
use lib.Dec.{eqb}
use Rattle.blocks.proofs.Bits.{bit-shift}
use Rattle.blocks.proofs.set.has.Goals as goal

pub returns : goal.returns
returns c = ap (λ (x : ℕ). eqb x 1) (bit-shift c.args.b c.args.set)
