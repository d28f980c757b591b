use mathlib.Core.Path.{◌≡◌}
use mathlib.Core.List.{List}
use Prim.Native.Nat.{ℕ, zero, suc, ◌*◌}
use lib.ListN.{get_or, replicate}
use Rattle.bits.specs.Part.{splice}
use Rattle.log_subscriptions.specs.Subscriptions.{types, record13}
use Rattle.log_subscriptions.proofs.subscriptions.Given as goal

-- the first j records
unfoldable pub filled : ℕ → List ℕ
filled zero = replicate 117 0
filled (suc j) = splice (filled j) (j * 13) (record13 (get_or types j (0, 0)).0 (get_or types j (0, 0)).1)

abbrev pub invariant-loop-j : goal.invariant-loop-j
invariant-loop-j l = l.out ≡ filled l.j
