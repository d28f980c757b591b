-- `stage::kept` meets its contract, case by case.
use mathlib.Core.Path.{◌∙◌}
use native.Mathlib.Omega.{arith}
use Rattle.allocator.proofs.Stages.{kept-all, kept-none}
use Rattle.allocator.proofs.stage.kept.Goals as goal

pub returns-then-t-since : goal.returns-then-t-since
returns-then-t-since c = let a = c.args in c.gathered_count.ensures ∙ kept-all a.state.now a.t (omega (arith, c.time-since.ensures))

pub returns-then-t-since-gt-FOLLOWUP_TIMEOUT : goal.returns-then-t-since-gt-FOLLOWUP_TIMEOUT
returns-then-t-since-gt-FOLLOWUP_TIMEOUT c = let a = c.args in kept-none a.state.now a.t (omega (arith, c.time-since.ensures))

pub returns : goal.returns
returns c = let a = c.args in c.gathered_count-2.ensures ∙ kept-all a.state.now a.t (omega (arith, c.time-since.ensures))
