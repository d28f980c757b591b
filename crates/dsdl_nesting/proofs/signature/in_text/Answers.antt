-- `signature::in_text` meets its contract.
use Rattle.dsdl_nesting.proofs.Walks.{extended-goes, on, last}
use native.Mathlib.Omega.{arith}
use mathlib.Core.Path.{refl, ◌∙◌}
use Rattle.dsdl_nesting.proofs.signature.in_text.Goals as goal

pub loop-bounds-init : goal.loop-bounds-init
loop-bounds-init c = (omega arith, refl)

pub end-end-requires : goal.end-end-requires
end-end-requires c = c.loop-bounds.invariant.0

pub in_line-h-requires : goal.in_line-h-requires
in_line-h-requires c = c.requires

pub returns-then-end-text : goal.returns-then-end-text
returns-then-end-text c =
    let a = c.args in
    last a.space.now a.text.now c.loop-bounds.at c.end-end.result c.end-end.ensures.0 _ (extended-goes _) c.loop-bounds.h c.in_line-h.result c.in_line-h.ensures (omega arith)
    ∙ c.loop-bounds.invariant.1

pub loop-bounds-preserved : goal.loop-bounds-preserved
loop-bounds-preserved c =
    let a = c.args in (
      c.next-at.ensures.1.1,
      on a.space.now a.text.now c.loop-bounds.at c.end-end.result c.end-end.ensures.0 _ (extended-goes _) c.loop-bounds.h c.in_line-h.result c.in_line-h.ensures
          c.next-at.result c.next-at.ensures.0 (omega arith)
          ∙ c.loop-bounds.invariant.1,
    )
