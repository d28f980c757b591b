-- Sizes rise with the patterns, so two patterns are never of one size, and a pattern lies between two even ones.
use mathlib.Core.Path.{◌≡◌, sym, ap, ◌∙◌, subst}
use mathlib.Core.Logic.{◌⊎◌, inl, inr}
use Prim.Native.Nat.{ℕ, zero, suc, ◌+◌, ◌*◌, ◌%◌, ◌^◌, ◌≤◌, ◌<◌}
use native.Mathlib.Decide.{dec_lt}
use native.Mathlib.Nat.{le_trans, lt_irrefl, mul-lt-mul_of_pos_right}
use native.Mathlib.Omega.{arith}
use lib.Pow.{pow_pos}
use Rattle.binary16.specs.Format.{significand, scale, magnitude, between}
use Rattle.binary16.proofs.Pack.{pack, repack, significand-lt, significand-ge, magnitude-is}
use Rattle.binary16.proofs.Near.{size16, out_code, nearest-code}

-- the next pattern is one more at the same place
next : (m c : ℕ) → magnitude m (suc c) ≡ suc (significand m c) * 2 ^ scale m c
next m c =
    let e : suc c ≡ scale m c * 2 ^ m + suc (significand m c) = let r : scale m c * 2 ^ m + significand m c ≡ c = repack m c in omega arith in
    ap (magnitude m) e ∙ pack m (scale m c) (suc (significand m c)) (go (dec_lt 0 (scale m c))) (significand-lt m c)
  where
    go : Dec (0 < scale m c) → (scale m c ≡ 0) ⊎ (2 ^ m ≤ suc (significand m c))
    go (yes y) = inr (let l : 2 ^ m ≤ significand m c = significand-ge m c y in omega arith)
    go (no n) = inl (omega arith)

step : (m c : ℕ) → magnitude m c < magnitude m (suc c)
step m c =
    let p : 0 < 2 ^ scale m c = pow_pos (scale m c) in
    let a : magnitude m c ≡ significand m c * 2 ^ scale m c = magnitude-is m c in
    let b : magnitude m (suc c) ≡ suc (significand m c) * 2 ^ scale m c = next m c in
    omega arith

pub rises : (m a b : ℕ) → a < b → magnitude m a < magnitude m b
rises m a zero h = absurd (omega arith)
rises m a (suc b) h = go (dec_lt a b) (rises m a b)
  where
    go : Dec (a < b) → (a < b → magnitude m a < magnitude m b) → magnitude m a < magnitude m (suc b)
    go (yes l) f = let s : magnitude m b < magnitude m (suc b) = step m b in let t : magnitude m a < magnitude m b = f l in omega arith
    go (no n) f = let e : a ≡ b = omega arith in rw e (step m b)

size-rises : (a b : ℕ) → a < b → size16 a < size16 b
size-rises a b h = mul-lt-mul_of_pos_right (rises 10 a b h) (pow_pos 125)

pub one_size : (a b : ℕ) → size16 a ≡ size16 b → a ≡ b
one_size a b e = go (dec_lt a b) (dec_lt b a)
  where
    go : Dec (a < b) → Dec (b < a) → a ≡ b
    go (yes l) _ = absurd (lt_irrefl (size16 b) (subst (λ (x : ℕ). x < size16 b) e (size-rises a b l)))
    go (no n) (yes l) = absurd (lt_irrefl (size16 b) (subst (λ (x : ℕ). size16 b < x) e (size-rises b a l)))
    go (no n) (no k) = omega arith

-- of two sizes as near, what lies between is nearer
halfway : (n p r : ℕ) → p < r → between n p ≡ between n r → n * 2 ≡ p + r
halfway n p r l e = omega arith

inside : (n p q r : ℕ) → n * 2 ≡ p + r → p < q → q < r → between n p ≤ between n q → ⊥
inside n p q r h a b l = omega arith

two-apart : (a b : ℕ) → a < b → a % 2 ≡ 0 → b % 2 ≡ 0 → suc a < b
two-apart a b l x y = omega arith

clash : (n p q r : ℕ) → p < q → q < r → between n p ≡ between n r → between n p ≤ between n q → ⊥
clash n p q r a b e l = inside n p q r (halfway n p r (le_trans a (le_trans (omega arith) b)) e) a b l

-- two even patterns that are as near, none being nearer, are one
pub even-only : (c b : ℕ) → b < 0x7C00 → out_code c < 0x7C00 → between (magnitude 23 c) (size16 (out_code c)) ≡ between (magnitude 23 c) (size16 b)
    → ((b ≡ out_code c → ⊥) → out_code c % 2 ≡ 0) → ((b ≡ out_code c → ⊥) → b % 2 ≡ 0) → b ≡ out_code c
even-only c b lb la e ea eb = go (out_code c) la e (nearest-code c) ea eb
  where
    go : (a : ℕ) → a < 0x7C00 → between (magnitude 23 c) (size16 a) ≡ between (magnitude 23 c) (size16 b)
        → ((h : ℕ) → h < 0x7C00 → between (magnitude 23 c) (size16 a) ≤ between (magnitude 23 c) (size16 h))
        → ((b ≡ a → ⊥) → a % 2 ≡ 0) → ((b ≡ a → ⊥) → b % 2 ≡ 0) → b ≡ a
    go a la e near ea eb = at (dec_lt a b) (dec_lt b a)
      where
        at : Dec (a < b) → Dec (b < a) → b ≡ a
        at (yes l) _ =
            let d : suc a < b = two-apart a b l (ea (λ i. omega arith)) (eb (λ i. omega arith)) in
            absurd (clash (magnitude 23 c) (size16 a) (size16 (suc a)) (size16 b) (size-rises a (suc a) (omega arith)) (size-rises (suc a) b d) e (near (suc a) (omega arith)))
        at (no n) (yes l) =
            let d : suc b < a = two-apart b a l (eb (λ i. omega arith)) (ea (λ i. omega arith)) in
            absurd (clash (magnitude 23 c) (size16 b) (size16 (suc b)) (size16 a) (size-rises b (suc b) (omega arith)) (size-rises (suc b) a d) (sym e)
            (subst (λ (x : ℕ). x ≤ between (magnitude 23 c) (size16 (suc b))) e (near (suc b) (omega arith))))
        at (no n) (no k) = omega arith
