-- `store::time` meets its contract.
use Rattle.allocator_table.specs.Layout.{with_time}
use borrow.Author.Rules.{rules}
use Rattle.allocator_table.proofs.store.time.Goals as goal

pub returns : goal.returns
unfolding with_time
returns c = search rules
