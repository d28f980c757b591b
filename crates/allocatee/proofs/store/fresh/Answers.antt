-- `store::fresh` meets its contract.
use native.Mathlib.Omega.{arith}
use lib.ListN.{length-set}
use Rattle.allocatee.specs.Layout.{preferred_at}
use Rattle.allocatee.proofs.Views.{fresh_set}
use Rattle.allocatee.proofs.store.fresh.Goals as goal

pub node-requires : goal.node-requires
node-requires c =
    omega (arith, c.copy_at.auto, length-set c.copy_at.new.dst preferred_at c.args.preferred)

pub pending-requires : goal.pending-requires
pending-requires c =
    omega (arith, c.node.auto, c.copy_at.auto, length-set c.copy_at.new.dst preferred_at c.args.preferred)

pub timer-requires : goal.timer-requires
timer-requires c =
    omega (arith, c.pending.auto, c.node.auto, c.copy_at.auto, length-set c.copy_at.new.dst preferred_at c.args.preferred)

pub shape_of-bytes : goal.shape_of-bytes
shape_of-bytes c =
    omega (arith, c.timer.auto, c.pending.auto, c.node.auto, c.copy_at.auto, length-set c.copy_at.new.dst preferred_at c.args.preferred)

pub returns : goal.returns
returns c =
    let a = c.args in
    fresh_set a.bytes.now a.unique_id.now a.preferred a.t a.x c.copy_at.new.dst c.node.new.bytes c.pending.new.bytes c.timer.new.bytes
    c.copy_at.ensures c.node.ensures c.pending.ensures c.timer.ensures
