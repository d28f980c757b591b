-- Laws of the numbers that types hold.
use mathlib.Core.Path.{◌≡◌, refl, sym, ap, ◌∙◌}
use mathlib.Core.Bool.{Bool, true, false, cond, ◌&&◌}
use mathlib.Core.List.{List}
use Prim.Native.Nat.{ℕ, suc, ◌+◌, ◌*◌, ◌-◌, ◌/◌, ◌^◌, ◌≤◌, ◌<◌}
use native.Mathlib.Omega.{arith}
use native.Mathlib.Nat.{mul-one, div-one, mod-one, lt_of_le_of_lt, sub-le}
use borrow.Author.Tests.{leb-true, lt-ltb}
use lib.Dec.{leb, ltb, eqb, leb-suc-suc, lit<}
use lib.ListN.{length, drop}
use lib.Pow.{pow_mono, suc_ones}
use Rattle.dsdl_text.specs.Class.{within}
use Rattle.dsdl_number.proofs.Significands.{both}
use Rattle.dsdl_number.specs.Integer.{value}
use Rattle.dsdl_number.specs.Number.{Number, whole_part, is_whole, whole}
use Rattle.dsdl_number.specs.inside.Significand.{significand, zeros, padded, are_zero}
use Rattle.dsdl_type.specs.Constant.{infinity_from, between, holds}
use Rattle.dsdl_type.specs.inside.Bases.{is_sized}
use Rattle.dsdl_type.specs.inside.Whole.{whole_within}
use Rattle.dsdl_type.specs.declared.base.Base.{Base}
use Rattle.dsdl_type.specs.declared.base.Base.TheVariants.{Boolean, Signed, Unsigned, Floating, Void, Nested, Unknown}

-- ── the bits of integer types ──

sized : (n : ℕ) → within 2 64 n ≡ true → (2 ≤ n) × (n ≤ 64)
sized n e = let p = both (leb 2 n) (leb n 64) e in (leb-true 2 n p.0, leb-true n 64 p.1)

-- ── by the type ──

module _ (b : Base) (d : Number) where
  of-boolean : b ≡ Boolean → holds b d ≡ between 0 1 d
  unfolding holds
  of-boolean e = rw e

  of-signed : (n : ℕ) → b ≡ Signed n → holds b d ≡ between (2 ^ (n - 1)) (2 ^ (n - 1) - 1) d
  unfolding holds
  of-signed n e = rw e

  of-unsigned : (n : ℕ) → b ≡ Unsigned n → holds b d ≡ between 0 (2 ^ n - 1) d
  unfolding holds
  of-unsigned n e = rw e

  of-floating : (n : ℕ) → b ≡ Floating n → holds b d ≡ ltb (whole_part d) (infinity_from n)
  unfolding holds
  of-floating n e = rw e

  pub of-void : (n : ℕ) → b ≡ Void n → false ≡ holds b d
  unfolding holds
  of-void n e = rw e

  pub of-nested : b ≡ Nested → false ≡ holds b d
  unfolding holds
  of-nested e = rw e

  pub of-unknown : b ≡ Unknown → false ≡ holds b d
  unfolding holds
  of-unknown e = rw e

-- ── numbers by their digits ──

module _ (b : Base) (d : Number) (s : List ℕ) (point n base : ℕ) (negative r : Bool) (en : d.negative ≡ negative)
    (ew : is_whole d ≡ are_zero (drop n (padded (length s) (significand point s)))) (ev : whole_part d ≡ value base (padded n (significand point s))) where
  within_both : (low high m : ℕ) → m ≡ cond negative low high → r ≡ whole_within s point n base m → r ≡ between low high d
  within_both low high m em q =
      q ∙ (ap (λ (w : Bool). w && leb (value base (padded n (significand point s))) m) (sym ew)
      ∙ (ap (λ (v : ℕ). is_whole d && leb v m) (sym ev) ∙ ap (λ (k : ℕ). is_whole d && leb (whole_part d) k) (em ∙ ap (λ (t : Bool). cond t low high) (sym en))))

  pub held-boolean : (m : ℕ) → b ≡ Boolean → m ≡ cond negative 0 1 → r ≡ whole_within s point n base m → r ≡ holds b d
  held-boolean m e em q = within_both 0 1 m em q ∙ sym (of-boolean b d e)

  pub held-signed : (m k bits : ℕ) → b ≡ Signed bits → k ≡ 2 ^ (bits - 1) - 1 → m ≡ cond negative (k + 1) k → r ≡ whole_within s point n base m → r ≡ holds b d
  held-signed m k bits e ek em q =
      let low : k + 1 ≡ 2 ^ (bits - 1) = omega (arith, suc_ones (bits - 1)) in
      within_both (2 ^ (bits - 1)) (2 ^ (bits - 1) - 1) m (em ∙ (ap (λ (x : ℕ). cond negative x k) low ∙ ap (λ (x : ℕ). cond negative (2 ^ (bits - 1)) x) ek)) q
      ∙ sym (of-signed b d bits e)

  pub held-unsigned : (m k bits : ℕ) → b ≡ Unsigned bits → k ≡ 2 ^ bits - 1 → m ≡ cond negative 0 k → r ≡ whole_within s point n base m → r ≡ holds b d
  held-unsigned m k bits e ek em q = within_both 0 (2 ^ bits - 1) m (em ∙ ap (λ (x : ℕ). cond negative 0 x) ek) q ∙ sym (of-unsigned b d bits e)

  pub held-floating : (bits : ℕ) → b ≡ Floating bits → r ≡ ltb (value base (padded n (significand point s))) (infinity_from bits) → r ≡ holds b d
  held-floating bits e q = q ∙ (ap (λ (v : ℕ). ltb v (infinity_from bits)) (sym ev) ∙ sym (of-floating b d bits e))

-- ── small numbers ──

part_of : (n : ℕ) → whole_part (whole false n) ≡ n
part_of n = ap (λ (v : ℕ). v / 1) (mul-one n) ∙ div-one n

code-between : (low high n : ℕ) → leb n high ≡ between low high (whole false n)
code-between low high n =
    ap (λ (v : ℕ). leb v high) (sym (part_of n))
    ∙ ap (λ (t : Bool). t && leb (whole_part (whole false n)) high) (sym (ap (λ (v : ℕ). eqb v 0) (mod-one (n * 1))))

-- the bounds of floating types
infinite : (bits : ℕ) → (255 < infinity_from bits) × ((infinity_from bits ≡ suc (infinity_from bits - 1)) × (infinity_from bits - 1 < 10 ^ zeros))
infinite bits = go (eqb bits 16) (eqb bits 32) where
  go : (x y : Bool) → (255 < cond x 65520 (cond y (2 ^ 128 - 2 ^ 103) (2 ^ 1024 - 2 ^ 970)))
      × ((cond x 65520 (cond y (2 ^ 128 - 2 ^ 103) (2 ^ 1024 - 2 ^ 970)) ≡ suc (cond x 65520 (cond y (2 ^ 128 - 2 ^ 103) (2 ^ 1024 - 2 ^ 970)) - 1))
      × (cond x 65520 (cond y (2 ^ 128 - 2 ^ 103) (2 ^ 1024 - 2 ^ 970)) - 1 < 10 ^ zeros))
  go true y = (lit< tt, (refl, lit< tt))
  go false true = (lit< tt, (refl, lit< tt))
  go false false = (lit< tt, (refl, lit< tt))

module _ (b : Base) (n : ℕ) where
  pub code-boolean : b ≡ Boolean → leb n 1 ≡ holds b (whole false n)
  code-boolean e = code-between 0 1 n ∙ sym (of-boolean b (whole false n) e)

  pub code-signed : (m bits : ℕ) → b ≡ Signed bits → m ≡ 2 ^ (bits - 1) - 1 → leb n m ≡ holds b (whole false n)
  code-signed m bits e em = ap (leb n) em ∙ (code-between (2 ^ (bits - 1)) (2 ^ (bits - 1) - 1) n ∙ sym (of-signed b (whole false n) bits e))

  pub code-unsigned : (m bits : ℕ) → b ≡ Unsigned bits → m ≡ 2 ^ bits - 1 → leb n m ≡ holds b (whole false n)
  code-unsigned m bits e em = ap (leb n) em ∙ (code-between 0 (2 ^ bits - 1) n ∙ sym (of-unsigned b (whole false n) bits e))

  pub code-floating : (bits : ℕ) → b ≡ Floating bits → n ≤ 255 → true ≡ holds b (whole false n)
  code-floating bits e h =
      sym (lt-ltb n (infinity_from bits) (lt_of_le_of_lt h (infinite bits).0))
      ∙ (ap (λ (v : ℕ). ltb v (infinity_from bits)) (sym (part_of n)) ∙ sym (of-floating b (whole false n) bits e))

-- ── numbers that no bound tells apart ──

abbrev Alike : Number → Number → Type 0
Alike d e = (d.negative ≡ e.negative) × ((is_whole d ≡ is_whole e) × ((m : ℕ) → m < 10 ^ zeros → leb (whole_part d) m ≡ leb (whole_part e) m))

chosen : (t : Bool) (low high top : ℕ) → low < top → high < top → cond t low high < top
chosen true low high top h k = h
chosen false low high top h k = k

alike-between : (low high : ℕ) (d e : Number) → Alike d e → low < 10 ^ zeros → high < 10 ^ zeros → between low high d ≡ between low high e
alike-between low high d e a h k =
    ap (λ (t : Bool). t && leb (whole_part d) (cond d.negative low high)) a.1.0
    ∙ (ap (λ (t : Bool). is_whole e && t) (a.1.1 (cond d.negative low high) (chosen d.negative low high (10 ^ zeros) h k))
    ∙ ap (λ (t : Bool). is_whole e && leb (whole_part e) (cond t low high)) a.0)

power_small : (n : ℕ) → n ≤ 64 → 2 ^ n < 10 ^ zeros
power_small n h = lt_of_le_of_lt (pow_mono h) (lit< tt)

less-small : (n : ℕ) → n ≤ 64 → 2 ^ n - 1 < 10 ^ zeros
less-small n h = lt_of_le_of_lt (sub-le (2 ^ n) 1) (power_small n h)

pub alike : (b : Base) → is_sized b ≡ true → (d e : Number) → Alike d e → holds b d ≡ holds b e
unfolding holds
alike Boolean h d e a = alike-between 0 1 d e a (lit< tt) (lit< tt)
alike (Signed n) h d e a =
    let p = sized n h in
    let q : n - 1 ≤ 64 = omega arith in
    alike-between (2 ^ (n - 1)) (2 ^ (n - 1) - 1) d e a (power_small (n - 1) q) (less-small (n - 1) q)
alike (Unsigned n) h d e a = alike-between 0 (2 ^ n - 1) d e a (lit< tt) (less-small n (sized n h).1)
alike (Floating n) h d e a =
    let i = infinite n in
    let f : (v : ℕ) → ltb v (infinity_from n) ≡ leb v (infinity_from n - 1) = λ v. ap (ltb v) i.1.0 ∙ leb-suc-suc v (infinity_from n - 1) in
    f (whole_part d) ∙ (a.1.1 (infinity_from n - 1) i.1.1 ∙ sym (f (whole_part e)))
alike (Void n) h d e a = refl
alike Nested h d e a = refl
alike Unknown h d e a = refl
