-- `node_status::encode` meets its contract: 8 or a status.
use mathlib.Core.Path.{refl}
use Rattle.protocol.specs.NodeStatus.{node_status, status_values}
use Rattle.protocol.proofs.NodeStatusFacts.{size, fit}
use Rattle.shape.proofs.Writing.{refuse-8, write-all}
use Rattle.shape.specs.Shape.{end}
use Rattle.bits.proofs.Octets.{octets-all}
use native.Mathlib.Omega.{arith}
use Rattle.protocol.proofs.node_status.encode.Goals as goal

pub returns-then-out-lt7 : goal.returns-then-out-lt7
returns-then-out-lt7 c =
    let a = c.args in
    refuse-8 node_status (status_values a.x end tt) a.out.now refl (fit a.x) 7 (size a.x) (omega arith)

pub returns : goal.returns
returns c =
    let a = c.args in
    write-all node_status (status_values a.x end tt) a.out.now refl (fit a.x) 7 (size a.x)
    (octets-all a.out.now (λ i. omega (arith, c.slice_known-1.given i))) (omega arith) c.write_front.new.out c.write_front.ensures
