-- `float::from_f32` meets its contract: only a NaN differs from itself.
use mathlib.Core.Path.{sym}
use Rattle.binary16.proofs.Real.{out-of-nan, no_nan}
use Rattle.binary16.proofs.float.from_f32.Goals as goal

pub returns-then-x : goal.returns-then-x
returns-then-x c = sym (out-of-nan c.args.x c.if-x.true)

pub float_to_bits-x : goal.float_to_bits-x
float_to_bits-x c = no_nan c.args.x c.if-x.false
