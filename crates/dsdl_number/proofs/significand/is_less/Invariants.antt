use Rattle.dsdl_number.specs.inside.Significand.{significand, padded, is_less}
use lib.ListN.{length, drop}
use Prim.Native.Nat.{ℕ, ◌+◌, ◌≤◌}
use mathlib.Core.Path.{◌≡◌}
use mathlib.Core.List.{List}
use Rattle.dsdl_number.proofs.significand.is_less.Given as goal

abbrev pub front : List ℕ → ℕ → ℕ → ℕ → List ℕ
front s point from n = padded (from + n) (significand point s)

abbrev pub invariant-loop-i : goal.invariant-loop-i
invariant-loop-i l =
    (l.i ≤ length l.bound)
    × (is_less (drop (l.from + l.i) (front l.s l.point l.from (length l.bound))) (drop l.i l.bound) ≡ is_less (drop l.from (front l.s l.point l.from (length l.bound))) l.bound)
