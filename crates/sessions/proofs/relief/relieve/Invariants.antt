use mathlib.Core.Path.{◌≡◌}
use Rattle.state.specs.Layout.{places_of}
use Rattle.state.specs.Place.{written}
use Rattle.sessions.proofs.Eased.{eased_to}
use Rattle.sessions.proofs.relief.relieve.Given as goal

abbrev pub invariant-loop-i : goal.invariant-loop-i
invariant-loop-i l = l.state ≡ written l.initial.state (eased_to l.t l.i (places_of l.initial.state))
