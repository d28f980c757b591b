use mathlib.Core.Path.{◌≡◌}
use mathlib.Core.Bool.{Bool}
use mathlib.Core.List.{List}
use Prim.Native.Nat.{ℕ, suc, ◌-◌}
use Rattle.allocator_table.specs.declared.free.Reserved.{Reserved}
use Rattle.allocator_table.specs.Layout.{table_of}
use Rattle.allocator_table.specs.Limits.{node_max}
use Rattle.allocator_table.specs.Table.{is_free, lowest_from}
use Rattle.allocator_table.proofs.free.upwards.Given as goal

abbrev pub free : List ℕ → Reserved → ℕ → Bool
free m r = is_free r (table_of m)

abbrev pub invariant-loop-n : goal.invariant-loop-n
invariant-loop-n l = lowest_from (free l.state l.r) l.n (suc node_max - l.n) ≡ lowest_from (free l.state l.r) l.p (suc node_max - l.p)
