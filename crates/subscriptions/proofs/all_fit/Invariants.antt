use mathlib.Core.Path.{◌≡◌}
use mathlib.Core.List.{List}
use Prim.Native.Nat.{ℕ, ◌<◌}
use lib.ListN.{length}
use Rattle.keys.specs.inside.Keys.{marks_max}
use Rattle.keys.proofs.Distinct.{First}
use Rattle.keys.proofs.Marks.{Marked}
use Rattle.state.specs.Layout.{subscription_key_at, subscription_at}
use Rattle.subscriptions.proofs.Fit.{Fits}
use Rattle.subscriptions.proofs.all_fit.Given as goal

-- a subscription in range, the first of its key
pub record Good (m : List ℕ) (j : ℕ) : Type 0 where
  pub fit : Fits (subscription_at m j)
  pub first : First (subscription_key_at m) j

abbrev pub invariant-loop-j : goal.invariant-loop-j
invariant-loop-j l = (length l.marks ≡ marks_max) × (Marked (subscription_key_at l.state) l.j l.marks × ((i : ℕ) → i < l.j → Good l.state i))
