-- `integer::base` meets its contract.
use Rattle.dsdl_number.specs.Integer.{base_of}
use native.Mathlib.Omega.{arith}
use mathlib.Core.Path.{refl, sym}
use Rattle.dsdl_text.proofs.Choices.{first, next, by}
use Rattle.dsdl_number.proofs.integer.base.Goals as goal

pub returns-then-is_decimal : goal.returns-then-is_decimal
unfolding base_of
returns-then-is_decimal c = (first _ _ _ (by c.is_decimal.ensures c.if-is_decimal.true), omega arith)

pub returns-then-is_prefixed : goal.returns-then-is_prefixed
unfolding base_of
returns-then-is_prefixed c =
    (next _ _ _ _ (by c.is_decimal.ensures c.if-is_decimal.false) (first _ _ _ (by c.is_prefixed.ensures c.if-is_prefixed.true)), omega arith)

pub returns-then-is_prefixed-2 : goal.returns-then-is_prefixed-2
unfolding base_of
returns-then-is_prefixed-2 c =
    (next _ _ _ _ (by c.is_decimal.ensures c.if-is_decimal.false) (next _ _ _ _ (by c.is_prefixed.ensures c.if-is_prefixed.false) (first _ _ _ (by c.is_prefixed-2.ensures c.if-is_prefixed-2.true))), omega arith)

pub returns-then-is_prefixed-3 : goal.returns-then-is_prefixed-3
unfolding base_of
returns-then-is_prefixed-3 c = (
  next _ _ _ _ (by c.is_decimal.ensures c.if-is_decimal.false) (next _ _ _ _ (by c.is_prefixed.ensures c.if-is_prefixed.false) (next _ _ _ _ (by c.is_prefixed-2.ensures c.if-is_prefixed-2.false)
      (first _ _ _ (by c.is_prefixed-3.ensures c.if-is_prefixed-3.true)))),
  omega arith,
)

pub returns : goal.returns
unfolding base_of
returns c =
    sym (next _ _ _ _ (by c.is_decimal.ensures c.if-is_decimal.false) (next _ _ _ _ (by c.is_prefixed.ensures c.if-is_prefixed.false) (next _ _ _ _ (by c.is_prefixed-2.ensures c.if-is_prefixed-2.false)
    (next _ _ _ _ (by c.is_prefixed-3.ensures c.if-is_prefixed-3.false) refl))))
