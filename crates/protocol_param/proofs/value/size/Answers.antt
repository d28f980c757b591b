-- `value::size` meets its contract.
use mathlib.Core.Path.{◌≡◌, sym, ap, ◌∙◌}
use Prim.Native.Nat.{ℕ, ◌+◌}
use native.Mathlib.Omega.{arith}
use Rattle.protocol_param.proofs.ValueFacts.{size-unknown, size_is, text-lt}
use Rattle.protocol_param.proofs.value.size.Goals as goal

pub returns-then-cases-t : goal.returns-then-cases-t
returns-then-cases-t c =
    let a = c.args in
    sym (size-unknown a.cases a.s.now (omega (arith, c.tag-t.ensures, c.if-cases-t.true)))

pub overflow_add-result : goal.overflow_add-result
overflow_add-result c = omega (arith, c.text_length.ensures, text-lt c.args.s.now)

pub returns-in-1 : goal.returns-in-1
returns-in-1 c =
    let a = c.args in
    sym (size_is a.cases a.s.now 1 (sym c.tag-t.ensures ∙ c.in-1.is) (omega (arith, c.in-1.is, c.if-cases-t.false)))

pub returns-in-2 : goal.returns-in-2
returns-in-2 c =
    let a = c.args in
    sym (size_is a.cases a.s.now 2 (sym c.tag-t.ensures ∙ c.in-2.is) (omega (arith, c.in-2.is, c.if-cases-t.false)))

pub returns-in-3 : goal.returns-in-3
returns-in-3 c =
    let a = c.args in
    sym (size_is a.cases a.s.now 3 (sym c.tag-t.ensures ∙ c.in-3.is) (omega (arith, c.in-3.is, c.if-cases-t.false)))

pub returns-in-4 : goal.returns-in-4
returns-in-4 c =
    let a = c.args in
    ap (λ (k : ℕ). 2 + k) c.text_length.ensures
    ∙ sym (size_is a.cases a.s.now 4 (sym c.tag-t.ensures ∙ c.in-4.is) (omega (arith, c.in-4.is, c.if-cases-t.false)))

pub returns-in_default : goal.returns-in_default
returns-in_default c =
    let a = c.args in
    let z : c.tag-t.result ≡ 0 = omega arith in
    sym (size_is a.cases a.s.now 0 (sym c.tag-t.ensures ∙ z) (omega arith))
