-- `is_gap` meets its contract.
use mathlib.Core.Path.{sym}
use Prim.Native.Nat.{◌+◌}
use native.Mathlib.Omega.{arith}
use borrow.Author.Tests.{lt-leb}
use Rattle.rules.specs.Limits.{unused_age}
use Rattle.judge_stream.proofs.Rules.{gap}
use Rattle.judge_stream.proofs.is_gap.Goals as goal

pub returns-then-since-time : goal.returns-then-since-time
returns-then-since-time c = gap _ _ c.if-since-time.true

pub returns : goal.returns
returns c = let a = c.args in sym (lt-leb (a.since + unused_age) a.time (omega arith))
