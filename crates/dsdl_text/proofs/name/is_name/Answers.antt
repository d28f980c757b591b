-- `name::is_name` meets its contract.
use Rattle.dsdl_text.proofs.Names.{no_name}
use Rattle.dsdl_text.proofs.name.is_name.Goals as goal

pub returns-then-s-eq0 : goal.returns-then-s-eq0
returns-then-s-eq0 c = no_name c.args.s.now c.if-s-eq0.true
