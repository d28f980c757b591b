-- `pattern::normal` meets its contract.
use native.Mathlib.Omega.{arith}
use Rattle.binary16.proofs.Steps.{normal-is}
use Rattle.binary16.proofs.pattern.normal.Goals as goal

pub returns : goal.returns
returns c = (normal-is c.args.c (omega arith), omega arith)
