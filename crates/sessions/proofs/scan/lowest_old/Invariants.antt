use mathlib.Core.Path.{◌≡◌}
use Prim.Native.Nat.{◌-◌}
use Rattle.keys.specs.inside.Keys.{lowest}
use Rattle.rules.specs.Limits.{sessions_max}
use Rattle.sessions.specs.inside.Scan.{old_at}
use Rattle.sessions.proofs.scan.lowest_old.Given as goal

abbrev pub invariant-loop-i : goal.invariant-loop-i
invariant-loop-i l = lowest (old_at l.state l.t) l.i (sessions_max - l.i) ≡ lowest (old_at l.state l.t) 0 sessions_max
