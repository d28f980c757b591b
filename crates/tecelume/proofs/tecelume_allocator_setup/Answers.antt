-- `tecelume_allocator_setup` meets its contract: the proved call, its outcome as a number.
use mathlib.Core.Path.{ap, ◌∙◌}
use Prim.Native.Nat.{ℕ}
use Rattle.tecelume.specs.Entry.{numbered_allocator}
use Rattle.tecelume.proofs.tecelume_allocator_setup.Goals as goal

pub returns : goal.returns
returns c =
    ap (λ (n : ℕ). record { number = n; state = c.setup.new.state }) c.setup_number.ensures ∙ ap numbered_allocator c.setup.ensures
