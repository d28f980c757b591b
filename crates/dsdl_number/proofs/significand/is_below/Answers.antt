-- `significand::is_below` meets its contract.
use Rattle.dsdl_number.proofs.Compared.{fewer, not_zeros, behind-zeros}
use Rattle.dsdl_number.specs.inside.Significand.{significand}
use mathlib.Core.Path.{sym, ◌∙◌}
use Rattle.dsdl_number.proofs.significand.is_below.Goals as goal

pub returns-then-n-m : goal.returns-then-n-m
returns-then-n-m c =
    let a = c.args in
    fewer (significand a.point a.s.now) a.bound.now a.n c.if-n-m.true

pub returns-then-not-are_zero : goal.returns-then-not-are_zero
returns-then-not-are_zero c =
    let a = c.args in
    not_zeros (significand a.point a.s.now) a.bound.now a.n c.if-n-m.false (sym c.are_zero.ensures ∙ c.if-not-are_zero.true)

pub returns : goal.returns
returns c =
    let a = c.args in
    behind-zeros (significand a.point a.s.now) a.bound.now a.n c.if-n-m.false _ (sym c.are_zero.ensures ∙ c.if-not-are_zero.false)
    c.is_less.ensures
