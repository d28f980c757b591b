-- `pattern::widen` meets its contract: NaN, infinity and finite.
use mathlib.Core.Path.{sym}
use native.Mathlib.Omega.{arith}
use Rattle.binary16.proofs.Whole.{widened-nan, widened-infinite, widened-finite}
use Rattle.binary16.proofs.pattern.widen.Goals as goal

pub returns-then-c-gt31744 : goal.returns-then-c-gt31744
returns-then-c-gt31744 c = sym (widened-nan c.args.h (omega arith))

pub returns-then-c-eq31744 : goal.returns-then-c-eq31744
returns-then-c-eq31744 c = sym (widened-infinite c.args.h (omega arith))

pub returns : goal.returns
returns c = omega (arith, widened-finite c.args.h (omega arith), c.wide.ensures.0)
