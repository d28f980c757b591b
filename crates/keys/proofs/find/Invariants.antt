use mathlib.Core.Path.{◌≡◌}
use mathlib.Core.Bool.{Bool}
use mathlib.Core.List.{List}
use Prim.Native.Nat.{ℕ, ◌-◌}
use lib.Dec.{eqb}
use Rattle.keys.specs.inside.Keys.{word_at, lowest}
use Rattle.keys.proofs.find.Given as goal

abbrev pub has : List ℕ → ℕ → ℕ → ℕ → Bool
has s at k i = eqb (word_at s at i) k

abbrev pub invariant-loop-i : goal.invariant-loop-i
invariant-loop-i l = lowest (has l.s l.at l.k) l.i (l.n - l.i) ≡ lowest (has l.s l.at l.k) 0 l.n
