-- `value::refusal` meets its contract.
use mathlib.Core.Path.{sym, ap}
use native.Mathlib.Omega.{arith}
use Rattle.protocol_param.proofs.ValueFacts.{number_of, sized-none, sized-tag, sized-cut, sized-long, sized-all}
use Rattle.protocol_param.proofs.value.refusal.Goals as goal

pub returns-then-s-lt1 : goal.returns-then-s-lt1
returns-then-s-lt1 c =
    let a = c.args in
    sym (ap number_of (sized-none a.cases a.s.now (omega arith)))

pub returns-then-cases-tag : goal.returns-then-cases-tag
returns-then-cases-tag c =
    let a = c.args in
    sym (ap number_of (sized-tag a.cases a.s.now c.if-s-lt1.false (omega (arith, c.tag.ensures, c.if-cases-tag.true))))

pub returns-then-s-n : goal.returns-then-s-n
returns-then-s-n c =
    let a = c.args in
    sym (ap number_of (sized-cut a.cases a.s.now c.if-s-lt1.false (omega (arith, c.tag.ensures, c.if-cases-tag.false)) (omega (arith, c.size-n.ensures, c.if-s-n.true))))

pub returns-then-n-gt130 : goal.returns-then-n-gt130
returns-then-n-gt130 c =
    let a = c.args in
    sym (ap number_of (sized-long a.cases a.s.now c.if-s-lt1.false (omega (arith, c.tag.ensures, c.if-cases-tag.false)) (omega (arith, c.size-n.ensures, c.if-s-n.false)) (omega (arith, c.size-n.ensures, c.if-n-gt130.true))))

pub returns : goal.returns
returns c =
    let a = c.args in
    sym (ap number_of (sized-all a.cases a.s.now c.if-s-lt1.false (omega (arith, c.tag.ensures, c.if-cases-tag.false)) (omega (arith, c.size-n.ensures, c.if-s-n.false)) (omega (arith, c.size-n.ensures, c.if-n-gt130.false))))
