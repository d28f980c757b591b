-- `oversized::is_oversized` meets its contract.
use Rattle.dsdl_given.proofs.Sizes.{count, many, long, by_names}
use Rattle.dsdl_given.proofs.Located.{inside}
use Rattle.dsdl_text.proofs.Choices.{by}
use mathlib.Core.Path.{◌∙◌}
use Rattle.dsdl_given.proofs.oversized.is_oversized.Goals as goal

pub returns-then-n-gt-DEFINITIONS : goal.returns-then-n-gt-DEFINITIONS
returns-then-n-gt-DEFINITIONS c = let a = c.args in many a.source.now a.lengths.now c.if-n-gt-DEFINITIONS.true

pub returns-then-too_long : goal.returns-then-too_long
returns-then-too_long c =
    let a = c.args in
    long a.source.now a.lengths.now c.if-n-gt-DEFINITIONS.false (by c.too_long.ensures c.if-too_long.true)

pub name_twice-requires : goal.name_twice-requires
name_twice-requires c =
    let a = c.args in
    inside a.lengths.now c.bounds.result (count a.source.now a.lengths.now) c.bounds.ensures a.source.now c.if-n-gt-DEFINITIONS.false (by c.too_long.ensures c.if-too_long.false)

pub returns : goal.returns
returns c =
    let a = c.args in
    c.name_twice.ensures ∙ by_names a.source.now a.lengths.now c.if-n-gt-DEFINITIONS.false (by c.too_long.ensures c.if-too_long.false) c.bounds.result c.bounds.ensures
