-- `type_fits` meets its contract.
use native.Mathlib.Omega.{arith}
use Rattle.setup.proofs.Records.{no_kind, message, service}
use Rattle.setup.proofs.type_fits.Goals as goal

pub returns-then-kind-gt1 : goal.returns-then-kind-gt1
returns-then-kind-gt1 c = no_kind c.args.k c.if-kind-gt1.true

pub returns-then-kind-eq0 : goal.returns-then-kind-eq0
returns-then-kind-eq0 c = message c.args.k c.if-kind-eq0.true

pub returns : goal.returns
returns c = service c.args.k (omega arith) c.if-kind-eq0.false
