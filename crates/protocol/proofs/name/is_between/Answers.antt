-- `name::is_between` meets its contract.
use Rattle.protocol.specs.Name.{between}
use borrow.Author.Tests.{le-leb, lt-leb}
use Rattle.protocol.proofs.name.is_between.Goals as goal

pub returns-then-low-c : goal.returns-then-low-c
unfolding between
returns-then-low-c c = simp (le-leb _ _ c.if-low-c.true)

pub returns-else-low-c : goal.returns-else-low-c
unfolding between
returns-else-low-c c = simp (lt-leb _ _ c.if-low-c.false)
