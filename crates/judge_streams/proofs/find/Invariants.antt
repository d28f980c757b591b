use mathlib.Core.Path.{◌≡◌}
use Prim.Native.Nat.{ℕ, ◌+◌, ◌%◌, ◌<◌}
use lib.ListN.{get_or}
use Rattle.judge_streams.specs.inside.Table.{ids_at}
use Rattle.judge_streams.proofs.find.Given as goal

abbrev pub invariant-loop-j : goal.invariant-loop-j
invariant-loop-j l = (i : ℕ) → i < l.j → get_or l.table (ids_at + i) 0 % 16777216 ≡ l.key → ⊥
