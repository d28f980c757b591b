-- Numbers of digits below the bounds of floating types.
use mathlib.Core.Path.{◌≡◌, refl, sym, ap, ◌∙◌}
use mathlib.Core.Bool.{Bool, true}
use mathlib.Core.List.{List}
use Prim.Native.Nat.{ℕ, zero, suc, ◌*◌, ◌-◌, ◌/◌, ◌%◌, ◌^◌, ◌≤◌, ◌<◌}
use native.Mathlib.Omega.{arith}
use native.Mathlib.Numerals.{unary_clauses}
use borrow.Author.Tests.{eqb-true, ne_eqb}
use native.Mathlib.Decide.{dec_le}
use native.Mathlib.Nat.{lt_of_not-le, mul-le-mul, mul-suc, mul_assoc, pow-suc, mod-lt, mod-add-div}
use Rattle.std.proofs.lemmas.Nat.{pow-add}
use lib.Pow.{pow_pos, shl_exact}
use lib.Dec.{leb, ltb, lit≤, lit<}
use Rattle.dsdl_text.specs.Text.{chars}
use Rattle.dsdl_number.proofs.Compared.{below}
use Rattle.dsdl_number.proofs.Scaled.{below-scaled}
use Rattle.dsdl_number.proofs.Significands.{below-padded}
use Rattle.dsdl_number.specs.Integer.{value_from, value}
use Rattle.dsdl_number.specs.inside.Significand.{padded, are_below, is_below}
use Rattle.dsdl_type.specs.inside.Bases.{is_base}
use Rattle.dsdl_type.specs.inside.Bounds.{Bound}

-- the bounds of the two types
pub bound32 : Bound (chars "340282356779733661637539395458142568448") 0x1ffffff 103
unfolding value_from are_below
bound32 = ((lit≤ tt, lit< tt), (refl, (lit< tt, refl)))

pub bound64 : Bound (chars "179769313486231580793728971405303415079934132710037826936173778980444968292764750946649017977587207096330286416692887910946555547851940402630657488671505820681908902000708383676273854845817711531764475730270069855571366959622842914819860834936475292719074168444365510704342711559699508093042880177904174497792") 0x3fffffffffffff 970
unfolding value_from are_below
bound64 = ((lit≤ tt, lit< tt), (refl, (lit< tt, refl)))

-- such a bound ends in zeros in each base that is a power of two
power-of : (g k : ℕ) → (2 ^ g) ^ k ≡ 2 ^ (g * k)
power-of g zero = simp unary_clauses
power-of g (suc k) =
    pow-suc (2 ^ g) k
    ∙ (ap (λ (x : ℕ). x * 2 ^ g) (power-of g k) ∙ (sym (pow-add 2 (g * k) g) ∙ ap (λ (x : ℕ). 2 ^ x) (sym (mul-suc g k))))

module _ (ones zeros g : ℕ) (h : (1 ≤ ones) × (ones < 2 ^ 60)) where
  some-ones : 1 ≤ ones * 2 ^ (zeros % g)
  some-ones = mul-le-mul h.0 (pow_pos (zeros % g))

  -- the ones of the bound stay in 64 bits
  pub shifted : (1 ≤ g) × (g ≤ 4) → (ones * 2 ^ (zeros % g) % 2 ^ 64 ≡ ones * 2 ^ (zeros % g)) × (1 ≤ ones * 2 ^ (zeros % g) % 2 ^ 64)
  shifted k =
      let e : ones * 2 ^ (zeros % g) % 2 ^ 64 ≡ ones * 2 ^ (zeros % g) = shl_exact 60 (zeros % g) 64 h.1 (omega (arith, mod-lt zeros k.0)) in
      (e, rw e some-ones)

  scaled : (b : ℕ) → 2 ^ g ≡ b → suc (ones * 2 ^ (zeros % g) - 1) * b ^ (zeros / g) ≡ ones * 2 ^ zeros
  scaled b e =
      let s = some-ones in
      let x : suc (ones * 2 ^ (zeros % g) - 1) ≡ ones * 2 ^ (zeros % g) = omega arith in
      rw (← e, x, power-of g (zeros / g)) (mul_assoc ones (2 ^ (zeros % g)) (2 ^ (g * (zeros / g)))
      ∙ ap (λ (y : ℕ). ones * y) (sym (pow-add 2 (zeros % g) (g * (zeros / g))) ∙ ap (λ (y : ℕ). 2 ^ y) (mod-add-div zeros g)))

module _ (base : ℕ) (l : List ℕ) (n ones zeros : ℕ) (r : Bool) (a : are_below base l ≡ true) where
  pub in-decimal : (t : List ℕ) → base ≡ 10 → Bound t ones zeros → r ≡ is_below (padded n l) t → r ≡ ltb (value base (padded n l)) (ones * 2 ^ zeros)
  in-decimal t e d q =
      let a' : are_below 10 l ≡ true = ap (λ (b : ℕ). are_below b l) (sym e) ∙ a in
      q ∙ (sym (below 10 (omega arith) (padded n l) t (below-padded 10 n l (omega arith) a') d.1.0 d.1.1.0)
      ∙ (ap (λ (m : ℕ). ltb (value 10 (padded n l)) m) d.1.1.1 ∙ ap (λ (b : ℕ). ltb (value b (padded n l)) (ones * 2 ^ zeros)) (sym e)))

  pub in-power : (g q k : ℕ) → 0 < base → 2 ^ g ≡ base → (1 ≤ ones) × (ones < 2 ^ 60) → q ≡ ones * 2 ^ (zeros % g) - 1 → k ≡ n - zeros / g
      → r ≡ leb (value base (padded k l)) q → r ≡ ltb (value base (padded n l)) (ones * 2 ^ zeros)
  in-power g q k h e o eq ek p =
      p ∙ (ap (λ (j : ℕ). leb (value base (padded j l)) q) ek ∙ (sym (below-scaled base l h a q (zeros / g) n)
      ∙ ap (λ (m : ℕ). ltb (value base (padded n l)) m) (ap (λ (m : ℕ). suc m * base ^ (zeros / g)) eq ∙ scaled ones zeros g o base e)))

pub last-base : (b : ℕ) → is_base b ≡ true → (b ≡ 10 → ⊥) → (b ≡ 16 → ⊥) → (b ≡ 8 → ⊥) → b ≡ 2
last-base b h x y z = eqb-true b 2 (rw (ne_eqb b 10 x, ne_eqb b 16 y, ne_eqb b 8 z) at h)

pub base-bounds : (b : ℕ) → is_base b ≡ true → (1 ≤ b) × (b ≤ 16)
base-bounds b h = go (dec_le 1 b) (dec_le b 16) where
  go : Dec (1 ≤ b) → Dec (b ≤ 16) → (1 ≤ b) × (b ≤ 16)
  go (yes p) (yes q) = (p, q)
  go (no p) q =
      let z = lt_of_not-le p in
      let e = last-base b h (λ x. absurd (omega arith)) (λ x. absurd (omega arith)) (λ x. absurd (omega arith)) in
      absurd (omega arith)
  go (yes p) (no q) =
      let z = lt_of_not-le q in
      let e = last-base b h (λ x. absurd (omega arith)) (λ x. absurd (omega arith)) (λ x. absurd (omega arith)) in
      absurd (omega arith)
