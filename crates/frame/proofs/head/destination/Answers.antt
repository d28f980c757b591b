-- `head::destination` meets its contract.
use mathlib.Core.Path.{sym, ap, ◌∙◌}
use mathlib.Core.Bool.{true, false}
use Rattle.rules.specs.Frame.{Stream}
use Rattle.frame.proofs.Heads.{stream-is}
use Rattle.frame.proofs.head.destination.Goals as goal

pub returns-then-is_service : goal.returns-then-is_service
returns-then-is_service c = sym (ap (λ (d : Stream). d.destination) (stream-is c.args.id true (sym c.is_service.ensures ∙ c.if-is_service.true)))

pub returns : goal.returns
returns c = sym (ap (λ (d : Stream). d.destination) (stream-is c.args.id false (sym c.is_service.ensures ∙ c.if-is_service.false)))
