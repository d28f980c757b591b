-- `scan::lowest_old` meets its contract: no place passed is old.
use mathlib.Core.Path.{◌≡◌, sym, ◌∙◌}
use native.Mathlib.Numerals.{add-one}
use native.Mathlib.Omega.{arith}
use Rattle.keys.proofs.Lowest.{hit, miss, none}
use Rattle.rules.specs.Limits.{sessions_max}
use Rattle.sessions.specs.inside.Scan.{old_at}
use Rattle.sessions.proofs.scan.lowest_old.Goals as goal

pub returns-then-is_old : goal.returns-then-is_old
returns-then-is_old c =
    let a = c.args in
    sym (hit (old_at a.state.now a.t) c.loop-i.i sessions_max (omega arith) (sym c.is_old.ensures ∙ c.if-is_old.true)) ∙ c.loop-i.invariant

pub loop-i-preserved : goal.loop-i-preserved
loop-i-preserved c =
    let a = c.args in
    rw add-one (sym (miss (old_at a.state.now a.t) c.loop-i.i sessions_max (omega arith) (sym c.is_old.ensures ∙ c.if-is_old.false)) ∙ c.loop-i.invariant)

pub returns : goal.returns
returns c =
    let a = c.args in
    let e : sessions_max ≡ c.loop-i.i = omega arith in
    e ∙ sym (none (old_at a.state.now a.t) c.loop-i.i sessions_max (omega arith)) ∙ c.loop-i.invariant
