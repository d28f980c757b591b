use mathlib.Core.Path.{◌≡◌}
use mathlib.Core.Bool.{Bool}
use mathlib.Core.List.{List}
use Prim.Native.Nat.{ℕ}
use Rattle.allocator_table.specs.declared.free.Reserved.{Reserved}
use Rattle.allocator_table.specs.Layout.{table_of}
use Rattle.allocator_table.specs.Table.{is_free, highest_below}
use Rattle.allocator_table.proofs.free.downwards.Given as goal

abbrev pub free : List ℕ → Reserved → ℕ → Bool
free m r = is_free r (table_of m)

abbrev pub invariant-loop-n : goal.invariant-loop-n
invariant-loop-n l = highest_below (free l.state l.r) l.n ≡ highest_below (free l.state l.r) l.p
