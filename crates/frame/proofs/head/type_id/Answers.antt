-- `head::type_id` meets its contract.
use mathlib.Core.Path.{sym, ap, ◌∙◌}
use mathlib.Core.Bool.{Bool, true, false}
use Prim.Native.Nat.{◌/◌, ◌%◌}
use borrow.Author.Tests.{eq-eqb, ne_eqb}
use Rattle.rules.specs.Tests.{pick}
use Rattle.rules.specs.Frame.{Stream}
use Rattle.frame.proofs.Heads.{stream-is}
use Rattle.frame.proofs.head.type_id.Goals as goal

pub returns-then-is_service : goal.returns-then-is_service
returns-then-is_service c = sym (ap (λ (d : Stream). d.type) (stream-is c.args.id true (sym c.is_service.ensures ∙ c.if-is_service.true)))

pub returns-then-id-eq0 : goal.returns-then-id-eq0
returns-then-id-eq0 c =
    let id = c.args.id in
    sym (ap (λ (d : Stream). d.type) (stream-is id false (sym c.is_service.ensures ∙ c.if-is_service.false)) ∙ ap (λ (b : Bool). pick b (id / 256 % 4) (id / 256 % 65536)) (eq-eqb (id % 128) 0 c.if-id-eq0.true))

pub returns : goal.returns
returns c =
    let id = c.args.id in
    sym (ap (λ (d : Stream). d.type) (stream-is id false (sym c.is_service.ensures ∙ c.if-is_service.false)) ∙ ap (λ (b : Bool). pick b (id / 256 % 4) (id / 256 % 65536)) (ne_eqb (id % 128) 0 c.if-id-eq0.false))
