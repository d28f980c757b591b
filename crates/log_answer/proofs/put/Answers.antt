-- `put` meets its contract.
use Rattle.digits.proofs.Puts.{set-splice}
use mathlib.Core.Path.{refl}
use Rattle.log_answer.proofs.put.Goals as goal

pub returns : goal.returns
returns c = record { out = set-splice c.args.out.now c.args.at c.args.c c.requires; end = refl }
