-- `value::known` meets its contract.
use mathlib.Core.Path.{ap}
use Prim.Native.Nat.{ℕ}
use lib.Dec.{ltb}
use Rattle.protocol_param.proofs.value.known.Goals as goal

pub returns : goal.returns
returns c = ap (λ (k : ℕ). ltb k c.args.cases) c.tag_of.ensures
