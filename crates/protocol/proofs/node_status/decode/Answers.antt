-- `node_status::decode` meets its contract: 15, 16 or a status.
use Rattle.shape.specs.Answer.{got, numbered}
use Rattle.protocol.specs.declared.node_status.NodeStatus.{NodeStatus}
use Rattle.protocol.proofs.NodeStatusFacts.{short, long, read}
use native.Mathlib.Omega.{arith}
use mathlib.Core.Path.{sym, ap, ◌∙◌}
use Rattle.protocol.proofs.node_status.decode.Goals as goal

pub returns-then-n-lt7 : goal.returns-then-n-lt7
returns-then-n-lt7 c = sym (short c.args.payload.now (omega arith))

pub returns-then-n-gt7 : goal.returns-then-n-gt7
returns-then-n-gt7 c = sym (long c.args.payload.now (omega arith))

pub returns : goal.returns
returns c = ap (λ (x : NodeStatus). numbered (got x)) c.read_front.ensures ∙ sym (read c.args.payload.now (omega arith))
