-- `as_row::encode` meets its contract: the message call on the row's message.
use mathlib.Core.Path.{ap, ◌∙◌}
use native.Mathlib.Omega.{arith}
use lib.ListN.{length}
use Rattle.shape.specs.Answer.{answer_of, wrote}
use Rattle.row.proofs.Rows.{write-short, write_as}
use Rattle.message_fields.proofs.as_row.encode.Goals as goal

pub returns-then-fields : goal.returns-then-fields
returns-then-fields g c = let a = c.args in write-short g.row.N a.fields.now _ a.out.now (omega arith)

pub of_written-requires : goal.of_written-requires
of_written-requires g c = g.met.T.OfRow.fits _ c.args.out.now _ _ c.write.ensures

pub returns : goal.returns
returns g c =
    write_as g.row.N c.args.fields.now (g.T.OfRow.write (g.T.OfRow.of_row c.args.fields.now) (length c.args.out.now)) c.args.out.now (omega arith)
    (answer_of c.write.result) c.write.new.out
    (c.write.ensures ∙ ap (λ x. wrote (g.T.OfRow.write x (length c.args.out.now)) c.args.out.now) c.of_row.ensures) _ c.of_written.ensures
