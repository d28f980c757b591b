-- `significand::is_less` meets its contract.
use Rattle.dsdl_number.proofs.Significands.{padded-length, padded-at}
use Rattle.dsdl_number.proofs.Compared.{less-here, more-here, same_here, less-end}
use Rattle.dsdl_number.specs.Integer.{digit_of}
use Rattle.dsdl_number.specs.inside.Significand.{significand, is_less}
use lib.ListN.{length, get_or, drop}
use native.Mathlib.Omega.{arith}
use native.Mathlib.Numerals.{add-one}
use Prim.Native.Nat.{ℕ, suc, ◌+◌, ◌<◌}
use mathlib.Core.Path.{◌≡◌, sym, ap, ◌∙◌}
use mathlib.Core.List.{List}
use Rattle.dsdl_number.proofs.significand.is_less.Invariants.{front}
use Rattle.dsdl_number.proofs.significand.is_less.Goals as goal

-- a digit of the literal among the first ones
digit-in : (s : List ℕ) (point from n i d : ℕ) → i < n → d ≡ digit_of (get_or (significand point s) (from + i) 48)
    → (from + i < length (front s point from n)) × (d ≡ digit_of (get_or (front s point from n) (from + i) 0))
digit-in s point from n i d h e = (
  omega (arith, padded-length (from + n) (significand point s)),
  e ∙ ap digit_of (sym (padded-at (from + n) (significand point s) (from + i) 0 (omega arith))),
)

pub returns-then-d-e : goal.returns-then-d-e
returns-then-d-e c =
    let a = c.args in
    let n = length a.bound.now in
    let i = digit-in a.s.now a.point a.from n c.loop-i.i c.digit_at-d.result (omega arith) c.digit_at-d.ensures.0 in
    let p = front a.s.now a.point a.from n in
    less-here p a.bound.now (a.from + c.loop-i.i) c.loop-i.i c.digit_at-d.result c.digit-e.result i.0 (omega arith) i.1 c.digit-e.ensures.0 c.if-d-e.true ∙ c.loop-i.invariant.1

pub returns-then-e-d : goal.returns-then-e-d
returns-then-e-d c =
    let a = c.args in
    let n = length a.bound.now in
    let i = digit-in a.s.now a.point a.from n c.loop-i.i c.digit_at-d.result (omega arith) c.digit_at-d.ensures.0 in
    let p = front a.s.now a.point a.from n in
    more-here p a.bound.now (a.from + c.loop-i.i) c.loop-i.i c.digit_at-d.result c.digit-e.result i.0 (omega arith) i.1 c.digit-e.ensures.0
    c.if-d-e.false c.if-e-d.true ∙ c.loop-i.invariant.1

pub loop-i-preserved : goal.loop-i-preserved
loop-i-preserved c =
    let a = c.args in
    let n = length a.bound.now in
    let i = digit-in a.s.now a.point a.from n c.loop-i.i c.digit_at-d.result (omega arith) c.digit_at-d.ensures.0 in
    let p = front a.s.now a.point a.from n in
    let e : a.from + (c.loop-i.i + 1) ≡ suc (a.from + c.loop-i.i) = omega arith in
    let h = same_here p a.bound.now (a.from + c.loop-i.i) c.loop-i.i c.digit_at-d.result c.digit-e.result i.0 (omega arith) i.1 c.digit-e.ensures.0
    c.if-d-e.false c.if-e-d.false in (
      omega arith,
      ap (λ (k : ℕ). is_less (drop k p) (drop (c.loop-i.i + 1) a.bound.now)) e
          ∙ (ap (λ (k : ℕ). is_less (drop (suc (a.from + c.loop-i.i)) p) (drop k a.bound.now)) (add-one c.loop-i.i) ∙ (sym h ∙ c.loop-i.invariant.1)),
    )

pub returns : goal.returns
returns c =
    let a = c.args in
    let p = front a.s.now a.point a.from (length a.bound.now) in
    sym (less-end (drop (a.from + c.loop-i.i) p) a.bound.now c.loop-i.i (omega arith)) ∙ c.loop-i.invariant.1
