use mathlib.Core.Path.{◌≡◌}
use mathlib.Core.Bool.{Bool}
use mathlib.Core.List.{List}
use Prim.Native.Nat.{ℕ, ◌-◌, ◌≤◌}
use Rattle.id_map.specs.Layout.{slot_at}
use Rattle.keys.specs.inside.Keys.{lowest}
use Rattle.rules.specs.Limits.{entries_max}
use Rattle.rules.specs.Map.{is_unused}
use Rattle.id_map.proofs.find.lowest_unused.Given as goal

abbrev pub unused : List ℕ → ℕ → ℕ → Bool
unused m t i = is_unused t (slot_at m i)

abbrev pub invariant-loop-i : goal.invariant-loop-i
invariant-loop-i l = (l.i ≤ entries_max) × (lowest (unused l.map l.t) l.i (entries_max - l.i) ≡ lowest (unused l.map l.t) 0 entries_max)
