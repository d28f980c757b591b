-- `get_node_info_response::certificate_length` meets its contract; its field is eight bits wide.
use mathlib.Core.Path.{ap, ◌∙◌}
use Prim.Native.Nat.{ℕ}
use native.Mathlib.Omega.{arith}
use lib.ListN.{drop}
use Rattle.bits.specs.Order.{unpack, from_bits}
use Rattle.protocol.proofs.ResponseReadFacts.{eight, none}
use Rattle.protocol.specs.GetNodeInfoResponse.{certificate_length}
use Rattle.protocol.proofs.get_node_info_response.certificate_length.Goals as goal

pub returns-then-payload-lt41 : goal.returns-then-payload-lt41
returns-then-payload-lt41 c = none c.args.payload.now (omega arith)

pub read-requires : goal.read-requires
read-requires c = (omega (arith, eight, c.width.ensures), (omega arith, omega (arith, eight, c.width.ensures)))

pub returns : goal.returns
unfolding certificate_length
returns c =
    c.read.ensures ∙ ap (λ (k : ℕ). from_bits k (drop 320 (unpack c.args.payload.now))) c.width.ensures
