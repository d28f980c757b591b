-- `view::age` meets its contract.
use Rattle.allocatee.proofs.Views.{age-none, age-some}
use Rattle.allocatee.proofs.view.age.Goals as goal

pub returns-then-t-since : goal.returns-then-t-since
returns-then-t-since c = let a = c.args in age-none a.bytes.now a.t c.get_u64-since.result c.get_u64-since.ensures c.if-t-since.true

pub returns : goal.returns
returns c = let a = c.args in age-some a.bytes.now a.t c.get_u64-since.result c.get_u64-since.ensures
