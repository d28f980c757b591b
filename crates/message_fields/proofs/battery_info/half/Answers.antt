-- `battery_info::half` meets its contract.
use native.Mathlib.Omega.{arith}
use Rattle.message_fields.proofs.Floats.{float_at}
use Rattle.message_fields.proofs.battery_info.half.Goals as goal

pub overflow_cast-fields : goal.overflow_cast-fields
overflow_cast-fields c =
    record { fits = omega (arith, float_at c.args.fields.now (omega arith) c.args.i (omega arith) c.requires.1.1) }
