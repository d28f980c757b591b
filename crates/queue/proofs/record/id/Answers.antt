-- `record::id` meets its contract.
use mathlib.Core.Path.{◌∙◌}
use Rattle.queue.proofs.Records.{id-is}
use Rattle.queue.proofs.record.id.Goals as goal

pub returns : goal.returns
returns c = let a = c.args in c.get_u32.ensures ∙ id-is a.s.now a.at
