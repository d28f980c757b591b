-- `size::unsigned` meets its contract.
use Rattle.dsdl_number.proofs.Literals.{prefixed, base-bound}
use native.Mathlib.Omega.{arith}
use mathlib.Core.Path.{◌∙◌}
use Rattle.dsdl_type.proofs.size.unsigned.Goals as goal

pub slice_bounds-capped-count : goal.slice_bounds-capped-count
slice_bounds-capped-count c =
    prefixed c.args.s.now (λ e. c.if-b-eq10.false (c.in_ok-b.ensures.0 ∙ e)) (λ e. absurd (omega (arith, c.in_ok-b.ensures)))

pub slice_bounds-capped-start : goal.slice_bounds-capped-start
slice_bounds-capped-start c =
    prefixed c.args.s.now (λ e. c.if-b-eq10.false (c.in_ok-b.ensures.0 ∙ e)) (λ e. absurd (omega (arith, c.in_ok-b.ensures)))

pub capped-requires-2 : goal.capped-requires-2
capped-requires-2 c = omega (arith, c.in_ok-b.ensures, base-bound c.args.s.now)
