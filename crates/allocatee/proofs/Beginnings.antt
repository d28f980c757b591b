-- Whether bytes begin the own unique ID, as the comparison of slices says it.
use mathlib.Core.Path.{◌≡◌, refl, ap}
use mathlib.Core.Bool.{Bool, ◌&&◌}
use mathlib.Core.List.{List, [], ◌∷◌}
use Prim.Native.Nat.{ℕ, zero, suc, ◌≤◌}
use native.Mathlib.Omega.{arith}
use lib.Dec.{eqb}
use lib.ListN.{length, take}
use lib.Pointwise.{pointwise}
use Rattle.allocatee.specs.Calls.{begins}

pub same_front : (u m : List ℕ) (n : ℕ) → length u ≤ n → length u ≤ length m → pointwise eqb u (take (length u) m) ≡ begins u (take n m)
unfolding begins
same_front [] m n h l = refl
same_front (x ∷ u) [] n h l = absurd (omega arith)
same_front (x ∷ u) (y ∷ m) zero h l = absurd (omega arith)
same_front (x ∷ u) (y ∷ m) (suc n) h l = ap (λ (b : Bool). eqb x y && b) (same_front u m n (omega arith) (omega arith))
