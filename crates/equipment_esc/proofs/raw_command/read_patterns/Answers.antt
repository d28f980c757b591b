-- `raw_command::read_patterns` meets its contract: the part in front is read, the rest is zero.
use mathlib.Core.Path.{◌∙◌}
use Prim.Native.Nat.{◌-◌}
use native.Mathlib.Nat.{sub-zero}
use native.Mathlib.Omega.{arith}
use lib.ListN.{replicate}
use lib.Seq.{length-take-le}
use Rattle.bits.specs.Order.{unpack}
use Rattle.equipment_esc.proofs.RawCommandFacts.{places-read}
use Rattle.equipment_esc.proofs.raw_command.read_patterns.Goals as goal

pub returns : goal.returns
returns c =
    let a = c.args in
    places-read (unpack a.payload.now) a.n _ c.read.new.out c.read.ensures
    (length-take-le (a.n - 0) (replicate 20 0) (omega arith) ∙ sub-zero a.n)
