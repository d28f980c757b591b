-- `shape::read` meets its contract.
use Rattle.dsdl_text.proofs.Choices.{first, next, by}
use Rattle.dsdl_line.proofs.Attributes.{bare-part, shape-read}
use Rattle.dsdl_text.specs.Words.{ended}
use Rattle.dsdl_line.specs.Line.{shape_of}
use mathlib.Core.Path.{ap, ◌∙◌}
use Rattle.dsdl_line.proofs.shape.read.Goals as goal

pub returns-then-is_ended : goal.returns-then-is_ended
unfolding shape_of
returns-then-is_ended c =
    let l = c.args.line.now in
    first _ _ _ (by (c.is_ended.ensures ∙ ap ended (bare-part l c.run-stop.result c.run-stop.ensures.0)) c.if-is_ended.true)

pub returns : goal.returns
unfolding shape_of
returns c =
    let l = c.args.line.now in
    next _ _ _ _ (by (c.is_ended.ensures ∙ ap ended (bare-part l c.run-stop.result c.run-stop.ensures.0)) c.if-is_ended.false)
    (shape-read l c.run-stop.result c.run-stop.ensures.0 c.next-w.result c.next-w.ensures.0 _ c.by_first.ensures)
