-- `signature::in_line` meets its contract.
use Rattle.dsdl_nesting.specs.Signature.{extended_by}
use Rattle.checksum.specs.Signature.{extended}
use Rattle.dsdl_nesting.proofs.Kept.{same_place}
use mathlib.Core.Path.{ap, ◌∙◌}
use Rattle.dsdl_nesting.proofs.signature.in_line.Goals as goal

pub returns-in-None : goal.returns-in-None
unfolding extended_by
returns-in-None c = rw (c.in-None.ensures.0 c.args.space.now)

pub returns-in-Some : goal.returns-in-Some
unfolding extended_by
returns-in-Some c =
    let a = c.args in
    rw (c.in-Some.ensures.0 a.space.now) (c.extend.ensures ∙ ap (extended a.h) (same_place a.values 0 _ _ c.find-i.ensures.0))
