-- `log_message::source_length` meets its contract; its field is five bits wide.
use mathlib.Core.Path.{ap, ◌∙◌}
use Prim.Native.Nat.{ℕ}
use native.Mathlib.Omega.{arith}
use lib.ListN.{drop}
use Rattle.bits.specs.Order.{unpack, from_bits}
use Rattle.protocol_debug.proofs.LogMessageFacts.{five, none}
use Rattle.protocol_debug.specs.LogMessage.{source_length}
use Rattle.protocol_debug.proofs.log_message.source_length.Goals as goal

pub returns-then-payload-lt1 : goal.returns-then-payload-lt1
returns-then-payload-lt1 c = none c.args.payload.now (omega arith)

pub read-requires : goal.read-requires
read-requires c = (omega (arith, five, c.width.ensures), (omega arith, omega (arith, five, c.width.ensures)))

pub returns : goal.returns
unfolding source_length
returns c =
    c.read.ensures ∙ ap (λ (k : ℕ). from_bits k (drop 3 (unpack c.args.payload.now))) c.width.ensures
