-- `key` meets its contract.
use Prim.Native.Nat.{◌*◌}
use native.Mathlib.Omega.{arith}
use Rattle.rules.specs.Limits.{subscription_record}
use Rattle.setup.proofs.Records.{keyed}
use Rattle.setup.proofs.key.Goals as goal

pub returns : goal.returns
returns c =
    let a = c.args in
    let b = c.shared_slice_known-1.given (a.j * subscription_record) in
    keyed a.records.now a.j c.get_at.result c.requires (omega arith) c.get_at.ensures
