-- `pattern::narrow` meets its contract: small, normal, clipped, infinity and NaN.
use mathlib.Core.Path.{sym}
use Prim.Native.Nat.{◌%◌}
use native.Mathlib.Omega.{arith}
use Rattle.binary16.proofs.Steps.{clipped}
use Rattle.binary16.proofs.Whole.{narrowed-nan, narrowed-infinite, narrowed-finite}
use Rattle.binary16.proofs.pattern.narrow.Goals as goal

pub returns-then-c-lt947912704 : goal.returns-then-c-lt947912704
returns-then-c-lt947912704 c = omega (arith, narrowed-finite c.args.x (omega arith), c.small.ensures.0)

pub returns-then-c-lt1199566848 : goal.returns-then-c-lt1199566848
returns-then-c-lt1199566848 c = omega (arith, narrowed-finite c.args.x (omega arith), c.normal.ensures.0)

pub returns-then-c-lt2139095040 : goal.returns-then-c-lt2139095040
returns-then-c-lt2139095040 c = omega (arith, narrowed-finite c.args.x (omega arith), clipped (c.args.x % 0x80000000) (omega arith))

pub returns-then-c-eq2139095040 : goal.returns-then-c-eq2139095040
returns-then-c-eq2139095040 c = omega (arith, narrowed-infinite c.args.x (omega arith))

pub returns : goal.returns
returns c = sym (narrowed-nan c.args.x (omega arith))
