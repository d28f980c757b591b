-- `sound::is_sound` meets its contract.
use Rattle.allocatee.proofs.Views.{fault-short, fault-preferred, fault-node, by-pending}
use Rattle.allocatee.proofs.sound.is_sound.Goals as goal

pub returns-then-bytes-lt-SIZE : goal.returns-then-bytes-lt-SIZE
returns-then-bytes-lt-SIZE c = fault-short c.args.bytes.now c.if-bytes-lt-SIZE.true

pub returns-then-preferred-gt-NODE : goal.returns-then-preferred-gt-NODE
returns-then-preferred-gt-NODE c =
    fault-preferred c.args.bytes.now c.if-bytes-lt-SIZE.false c.preferred.result c.preferred.ensures.0 c.if-preferred-gt-NODE.true

pub returns-then-node-gt-NODE : goal.returns-then-node-gt-NODE
returns-then-node-gt-NODE c =
    fault-node c.args.bytes.now c.if-bytes-lt-SIZE.false c.preferred.result c.preferred.ensures.0 c.if-preferred-gt-NODE.false c.node.result c.node.ensures.0 c.if-node-gt-NODE.true

pub returns : goal.returns
returns c =
    by-pending c.args.bytes.now c.if-bytes-lt-SIZE.false c.preferred.result c.preferred.ensures.0 c.if-preferred-gt-NODE.false c.node.result c.node.ensures.0 c.if-node-gt-NODE.false
    c.pending.result c.pending.ensures.0
