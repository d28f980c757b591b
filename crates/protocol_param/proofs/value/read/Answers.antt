-- `value::read` meets its contract.
use mathlib.Core.Path.{◌≡◌, sym, ap, ◌∙◌}
use mathlib.Core.List.{List}
use Prim.Native.Nat.{ℕ}
use native.Mathlib.Omega.{arith}
use lib.Dec.{lit≤}
use lib.IntN.{pos}
use Rattle.bits.specs.Order.{unpack, from_bits}
use Rattle.shape.specs.Signed.{signed_of}
use Rattle.shape.proofs.CastFacts.{number_read, signed-read, bits_below}
use Rattle.protocol_param.proofs.ValueFacts.{value-unknown, value-is, rest-long}
use Rattle.protocol_param.specs.declared.value.Value.TheVariants.{Integer, Real, Boolean}
use Rattle.protocol_param.proofs.value.read.Goals as goal

pub returns-then-cases-t : goal.returns-then-cases-t
returns-then-cases-t c =
    let a = c.args in
    sym (value-unknown a.cases a.s.now (omega (arith, c.tag-t.ensures, c.if-cases-t.true)))

pub read_signed-requires : goal.read_signed-requires
read_signed-requires c =
    let a = c.args in
    (lit≤ tt, (lit≤ tt, (omega arith, omega (arith, rest-long a.cases a.s.now 1 (sym c.tag-t.ensures ∙ c.in-1.is) (omega (arith, c.in-1.is, c.if-cases-t.false)) c.requires.1 c.behind-rest.result.now c.behind-rest.ensures))))

pub read-requires : goal.read-requires
read-requires c =
    let a = c.args in
    (lit≤ tt, (omega arith, omega (arith, rest-long a.cases a.s.now 2 (sym c.tag-t.ensures ∙ c.in-2.is) (omega (arith, c.in-2.is, c.if-cases-t.false)) c.requires.1 c.behind-rest.result.now c.behind-rest.ensures)))

pub overflow_cast-result : goal.overflow_cast-result
overflow_cast-result c =
    let a = c.args in
    omega (arith, c.read.ensures, bits_below c.behind-rest.result.now 0 32 (lit≤ tt) (lit≤ tt) (omega (arith, rest-long a.cases a.s.now 2 (sym c.tag-t.ensures ∙ c.in-2.is) (omega (arith, c.in-2.is, c.if-cases-t.false)) c.requires.1 c.behind-rest.result.now c.behind-rest.ensures)))

pub read-requires-in-3 : goal.read-requires-in-3
read-requires-in-3 c =
    let a = c.args in
    (lit≤ tt, (omega arith, omega (arith, rest-long a.cases a.s.now 3 (sym c.tag-t.ensures ∙ c.in-3.is) (omega (arith, c.in-3.is, c.if-cases-t.false)) c.requires.1 c.behind-rest.result.now c.behind-rest.ensures)))

pub returns-in-1 : goal.returns-in-1
returns-in-1 c =
    let a = c.args in
    ap Integer (signed-read c.behind-rest.result.now 0 64 (lit≤ tt) (lit≤ tt) (omega (arith, rest-long a.cases a.s.now 1 (sym c.tag-t.ensures ∙ c.in-1.is) (omega (arith, c.in-1.is, c.if-cases-t.false)) c.requires.1 c.behind-rest.result.now c.behind-rest.ensures)) c.read_signed.result c.read_signed.ensures ∙ ap (λ (l : List ℕ). signed_of 64 (from_bits 64 (unpack l))) c.behind-rest.ensures)
    ∙ sym (value-is a.cases a.s.now 1 (sym c.tag-t.ensures ∙ c.in-1.is) (omega (arith, c.in-1.is, c.if-cases-t.false)))

pub returns-in-2 : goal.returns-in-2
returns-in-2 c =
    let a = c.args in
    ap Real (c.read.ensures ∙ ap (λ (l : List ℕ). from_bits 32 (unpack l)) c.behind-rest.ensures)
    ∙ sym (value-is a.cases a.s.now 2 (sym c.tag-t.ensures ∙ c.in-2.is) (omega (arith, c.in-2.is, c.if-cases-t.false)))

pub returns-in-3 : goal.returns-in-3
returns-in-3 c =
    let a = c.args in
    ap Boolean (number_read c.behind-rest.result.now 0 8 (lit≤ tt) (omega (arith, rest-long a.cases a.s.now 3 (sym c.tag-t.ensures ∙ c.in-3.is) (omega (arith, c.in-3.is, c.if-cases-t.false)) c.requires.1 c.behind-rest.result.now c.behind-rest.ensures)) c.read-in-3.result c.read-in-3.ensures ∙ ap (λ (l : List ℕ). pos (from_bits 8 (unpack l))) c.behind-rest.ensures)
    ∙ sym (value-is a.cases a.s.now 3 (sym c.tag-t.ensures ∙ c.in-3.is) (omega (arith, c.in-3.is, c.if-cases-t.false)))

pub returns-in-4 : goal.returns-in-4
returns-in-4 c =
    let a = c.args in
    sym (value-is a.cases a.s.now 4 (sym c.tag-t.ensures ∙ c.in-4.is) (omega (arith, c.in-4.is, c.if-cases-t.false)))

pub returns-in_default : goal.returns-in_default
returns-in_default c =
    let a = c.args in
    let z : c.tag-t.result ≡ 0 = omega arith in
    sym (value-is a.cases a.s.now 0 (sym c.tag-t.ensures ∙ z) (omega arith))
