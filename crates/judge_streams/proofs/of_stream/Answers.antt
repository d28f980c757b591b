-- `of_stream` meets its contract: the stream is at the place that was found, or at none.
use mathlib.Core.Path.{sym, ap, ◌∙◌}
use mathlib.Core.Option.{none}
use Rattle.judge_rules.specs.inside.Brief.{rests}
use Rattle.judge_stream.specs.inside.Kept.{brief_in}
use Rattle.judge_streams.proofs.Places.{known-state, new-state}
use Rattle.judge_streams.proofs.of_stream.Goals as goal

pub returns-then-j-n : goal.returns-then-j-n
returns-then-j-n c =
    λ named.
    let a = c.args in
    ap brief_in c.load.ensures
    ∙ sym (known-state a.table.now a.id named c.find-j.result c.find-j.ensures c.if-j-n.true (rests none))

pub returns : goal.returns
returns c =
    λ named.
    let a = c.args in
    sym (new-state a.table.now a.id named c.find-j.result c.find-j.ensures c.if-j-n.false (rests none))
