-- `size::count` meets its contract.
use Rattle.dsdl_type.proofs.Sizes.{no-count}
use Rattle.dsdl_type.proofs.size.count.Goals as goal

pub returns-then-s-eq0 : goal.returns-then-s-eq0
returns-then-s-eq0 c = no-count c.args.s.now c.if-s-eq0.true
