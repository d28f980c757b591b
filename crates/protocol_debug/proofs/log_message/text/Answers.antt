-- `log_message::text` meets its contract.
use mathlib.Core.Path.{ap, ◌∙◌}
use Prim.Native.Nat.{ℕ, ◌+◌}
use native.Mathlib.Omega.{arith}
use lib.ListN.{drop}
use Rattle.protocol_debug.proofs.LogMessageFacts.{below}
use Rattle.protocol_debug.proofs.log_message.text.Goals as goal

pub overflow_add-source_length : goal.overflow_add-source_length
overflow_add-source_length c = omega (arith, c.source_length.ensures, below c.args.payload.now)

pub returns : goal.returns
returns c =
    c.behind.ensures ∙ ap (λ (k : ℕ). drop (1 + k) c.args.payload.now) c.source_length.ensures
