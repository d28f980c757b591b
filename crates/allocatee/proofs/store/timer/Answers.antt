-- `store::timer` meets its contract.
use Rattle.allocatee.proofs.Views.{timer-set}
use Rattle.allocatee.proofs.store.timer.Goals as goal

pub returns : goal.returns
returns c =
    let a = c.args in
    timer-set a.bytes.now a.t a.x c.put_u64.new.s c.put_u32.new.s c.put_u32-2.new.s c.put_u64.ensures c.put_u32.ensures c.put_u32-2.ensures
