-- `entry::read` meets its contract.
use mathlib.Core.Path.{ap₂, ◌∙◌}
use Prim.Native.Nat.{ℕ, ◌+◌, ◌*◌, ◌^◌}
use native.Mathlib.Omega.{arith}
use Rattle.allocator_table.proofs.Numbers.{halves}
use Rattle.allocator_table.proofs.entry.read.Goals as goal

pub returns : goal.returns
returns c =
    let a = c.args in
    ap₂ (λ (x y : ℕ). x + 2 ^ 64 * y) c.get_at.ensures c.get_at-2.ensures ∙ halves a.s.now a.at (omega arith)
