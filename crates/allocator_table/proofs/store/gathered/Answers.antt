-- `store::gathered` meets its contract.
use mathlib.Core.Path.{ap, ◌∙◌}
use mathlib.Core.List.{List}
use Prim.Native.Nat.{ℕ}
use Rattle.bits.specs.Part.{splice}
use Rattle.allocator_table.specs.Layout.{gathered_at, with_gathered}
use Rattle.allocator_table.proofs.store.gathered.Goals as goal

pub returns : goal.returns
unfolding with_gathered
returns c =
    c.copy_at.ensures ∙ ap (λ (x : List ℕ). splice x gathered_at c.args.g.now) c.gathered_count.ensures
