-- `service::is_service` meets its contract.
use Rattle.dsdl.proofs.Services.{found, passed, last}
use Rattle.dsdl_text.proofs.Choices.{by}
use Rattle.dsdl_text.specs.Lines.{lines}
use Rattle.dsdl_line.specs.Line.{line_of}
use Rattle.dsdl.specs.Definition.{is_service}
use lib.ListN.{drop}
use native.Mathlib.Omega.{arith}
use Prim.Native.Nat.{ℕ}
use mathlib.Core.List.{map}
use mathlib.Core.Path.{refl, sym, ap, ◌∙◌}
use Rattle.dsdl.proofs.service.is_service.Goals as goal

pub end-end-requires : goal.end-end-requires
end-end-requires c = omega arith

pub loop-end-init : goal.loop-end-init
loop-end-init c = (c.end-end.ensures.0, (c.end-end.ensures.1.0, (c.end-end.ensures.1.1, refl)))

pub slice_bounds-is_marker-count : goal.slice_bounds-is_marker-count
slice_bounds-is_marker-count c = omega arith

pub slice_bounds-is_marker-start : goal.slice_bounds-is_marker-start
slice_bounds-is_marker-start c = omega arith

pub slice_bounds-is_marker-end : goal.slice_bounds-is_marker-end
slice_bounds-is_marker-end c = omega arith

pub returns-then-is_marker : goal.returns-then-is_marker
returns-then-is_marker c =
    let t = c.args.text.now in
    sym (sym c.loop-end.invariant.1.1.1 ∙ found t c.loop-end.at c.loop-end.end c.loop-end.invariant.0 c.loop-end-test.true (by c.is_marker.ensures c.if-is_marker.true))

pub next-at-requires : goal.next-at-requires
next-at-requires c = omega arith

pub end-end-requires-in-loop-end : goal.end-end-requires-in-loop-end
end-end-requires-in-loop-end c = c.next-at.ensures.1.1

pub loop-end-smaller : goal.loop-end-smaller
loop-end-smaller c =
    omega (arith, c.next-at.ensures.1.0, c.next-at.ensures.1.1, c.loop-end.invariant.1.0)

pub loop-end-preserved : goal.loop-end-preserved
loop-end-preserved c =
    let t = c.args.text.now in (
      c.end-end-in-loop-end.ensures.0,
      (
        c.end-end-in-loop-end.ensures.1.0,
        (
          c.end-end-in-loop-end.ensures.1.1,
          ap (λ (n : ℕ). is_service (map line_of (lines (drop n t)))) c.next-at.ensures.0
              ∙ (sym (passed t c.loop-end.at c.loop-end.end c.loop-end.invariant.0 c.loop-end-test.true (by c.is_marker.ensures c.if-is_marker.false))
              ∙ c.loop-end.invariant.1.1.1),
        ),
      ),
    )

pub slice_bounds-is_marker-count-2 : goal.slice_bounds-is_marker-count-2
slice_bounds-is_marker-count-2 c = omega arith

pub slice_bounds-is_marker-start-2 : goal.slice_bounds-is_marker-start-2
slice_bounds-is_marker-start-2 c = omega arith

pub slice_bounds-is_marker-end-2 : goal.slice_bounds-is_marker-end-2
slice_bounds-is_marker-end-2 c = omega arith

pub returns : goal.returns
returns c =
    let t = c.args.text.now in
    c.is_marker-2.ensures ∙ (sym (last t c.loop-end.at c.loop-end.end c.loop-end.invariant.0 c.loop-end-test.false) ∙ c.loop-end.invariant.1.1.1)
