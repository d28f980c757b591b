-- `signature::of` meets its contract.
use Rattle.dsdl_nesting.proofs.Walks.{nested_same}
use Rattle.dsdl_nesting.specs.Signature.{extended_by}
use mathlib.Core.Path.{ap, ◌∙◌}
use Rattle.dsdl_nesting.proofs.signature.of.Goals as goal

pub name-name-requires : goal.name-name-requires
name-name-requires c = c.requires.1.holds c.args.i c.requires.0

pub text-requires : goal.text-requires
text-requires c = c.requires.1.holds c.args.i c.requires.0

pub returns : goal.returns
returns c =
    let a = c.args in
    c.in_text.ensures ∙ ap (extended_by _ a.h) (nested_same _ _ _ _ c.space-k.result c.space-k.ensures.0 c.name-name.ensures c.text.ensures.0)
