-- `tecelume_setup` meets its contract: the proved call, its outcome as a number.
use mathlib.Core.Path.{ap, ◌∙◌}
use Prim.Native.Nat.{ℕ}
use Rattle.tecelume.specs.Entry.{numbered}
use Rattle.tecelume.proofs.tecelume_setup.Goals as goal

pub returns : goal.returns
returns c =
    ap (λ (n : ℕ). record { number = n; state = c.setup.new.state }) c.setup_number.ensures ∙ ap numbered c.setup.ensures
