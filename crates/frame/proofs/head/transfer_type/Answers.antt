-- `head::transfer_type` meets its contract.
use mathlib.Core.Path.{sym, ap, ◌∙◌}
use mathlib.Core.Bool.{Bool, true, false}
use Prim.Native.Nat.{◌/◌, ◌%◌}
use borrow.Author.Tests.{eq-eqb, ne_eqb}
use Rattle.rules.specs.Tests.{pick}
use Rattle.rules.specs.Frame.{Stream}
use Rattle.frame.proofs.Heads.{stream-is}
use Rattle.frame.proofs.head.transfer_type.Goals as goal

pub returns-then-id-eq1 : goal.returns-then-id-eq1
returns-then-id-eq1 c =
    let id = c.args.id in
    sym (ap (λ (d : Stream). d.transfer_type) (stream-is id true (sym c.is_service.ensures ∙ c.if-is_service.true)) ∙ ap (λ (b : Bool). pick b 1 2) (eq-eqb (id / 32768 % 2) 1 c.if-id-eq1.true))

pub returns-then-is_service : goal.returns-then-is_service
returns-then-is_service c =
    let id = c.args.id in
    sym (ap (λ (d : Stream). d.transfer_type) (stream-is id true (sym c.is_service.ensures ∙ c.if-is_service.true)) ∙ ap (λ (b : Bool). pick b 1 2) (ne_eqb (id / 32768 % 2) 1 c.if-id-eq1.false))

pub returns : goal.returns
returns c = sym (ap (λ (d : Stream). d.transfer_type) (stream-is c.args.id false (sym c.is_service.ensures ∙ c.if-is_service.false)))
