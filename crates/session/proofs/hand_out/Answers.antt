-- `hand_out` meets its contract: as many bytes are copied as the transfer says it has.
use mathlib.Core.Path.{◌≡◌}
use Prim.Native.Nat.{◌-◌}
use native.Mathlib.Omega.{arith}
use lib.ListN.{length}
use Rattle.bits.specs.Part.{span}
use Rattle.bits.proofs.Splice.{length-span}
use Rattle.session.proofs.hand_out.Goals as goal

pub returns : goal.returns
returns c =
    let a = c.args in
    let l : length (span a.s.now a.from (a.len - a.from)) ≡ a.len - a.from = length-span a.s.now a.from (a.len - a.from) (omega arith) in
    record { answer = rw l; out = c.copy_span.ensures }
