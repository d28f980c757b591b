-- `store::gathered_count` meets its contract.
use Rattle.allocator_table.specs.Layout.{with_count}
use borrow.Author.Rules.{rules}
use Rattle.allocator_table.proofs.store.gathered_count.Goals as goal

pub returns : goal.returns
unfolding with_count
returns c = search rules
