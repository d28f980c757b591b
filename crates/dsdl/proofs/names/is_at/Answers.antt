-- `names::is_at` meets its contract.
use Rattle.dsdl_text.specs.Text.{same}
use mathlib.Core.Path.{ap, ◌∙◌}
use Rattle.dsdl.proofs.names.is_at.Goals as goal

pub returns : goal.returns
returns c = c.same.ensures ∙ ap (same c.args.x.now) c.within-w.ensures.0
