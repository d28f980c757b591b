-- `data_length` meets its contract.
use mathlib.Core.Path.{sym, ap}
use mathlib.Core.Bool.{Bool}
use native.Mathlib.Omega.{arith}
use borrow.Author.Tests.{lt-ltb, le-ltb}
use Rattle.rules.specs.Tests.{pick}
use Rattle.batch.proofs.data_length.Goals as goal

pub returns-then-n-gt-FRAME_DATA : goal.returns-then-n-gt-FRAME_DATA
returns-then-n-gt-FRAME_DATA c = (ap (λ (b : Bool). pick b 9 c.args.n) (sym (lt-ltb 8 c.args.n (omega arith))), omega arith)

pub returns : goal.returns
returns c = (ap (λ (b : Bool). pick b 9 c.args.n) (sym (le-ltb 8 c.args.n (omega arith))), omega arith)
