-- Laws of the bases of types.
use mathlib.Core.Path.{◌≡◌, refl, ap, ◌∙◌}
use mathlib.Core.Bool.{Bool, true, false, not, cond, ◌&&◌, ◌||◌}
use mathlib.Core.List.{List, [], ◌∷◌}
use Prim.Native.Nat.{ℕ, zero, suc, ◌+◌, ◌*◌, ◌^◌, ◌≤◌, ◌<◌, min}
use native.Mathlib.Nat.{mul-le-mul_right, mul_assoc, pow-succ'}
use native.Mathlib.Omega.{arith}
use borrow.Author.Tests.{le-leb, eqb-true, leb-true, lt-ltb}
use lib.Dec.{leb, eqb}
use lib.ListN.{length, take, drop}
use Rattle.dsdl_text.specs.declared.class.Class.TheVariants.{Letter, Positive, Decimal}
use Rattle.dsdl_text.specs.Class.{within, is_in, run, all}
use Rattle.dsdl_text.specs.Names.{is_dotted, has_dot, name_max}
use Rattle.dsdl_text.specs.Text.{chars, same, first}
use Rattle.dsdl_number.proofs.Significands.{both}
use Rattle.dsdl_number.specs.Integer.{digit_of, value_from, value}
use Rattle.dsdl_number.specs.inside.Capped.{cap}
use Rattle.dsdl_type.specs.declared.base.Base.{Base}
use Rattle.dsdl_type.specs.declared.base.Base.TheVariants.{Boolean, Signed, Unsigned, Floating, Void, Nested, Unknown}
use Rattle.dsdl_type.specs.Base.{bits_of, primitive, nested, base_of}
use Rattle.dsdl_type.specs.inside.Bases.{is_sized}

-- ── the number of bits ──

pub no-digits : (s : List ℕ) → length s ≡ 0 → 0 ≡ bits_of s
unfolding is_in
no-digits [] h = refl
no-digits (x ∷ xs) h = absurd (omega arith)

and-false : (a : Bool) → (a && false) ≡ false
and-false true = refl
and-false false = refl

none₂ : (a b : Bool) (x : ℕ) → b ≡ false → 0 ≡ cond (a && b) x 0
none₂ true b x e = rw e
none₂ false b x e = refl

pub not-digits : (s : List ℕ) → all Decimal s ≡ false → 0 ≡ bits_of s
not-digits s e = none₂ (is_in Positive (first s)) (all Decimal s && leb (length s) 2) (value 10 s) (rw e)

-- a number of n digits is below 10 ^ n
digit-bound : (c : ℕ) → is_in Decimal c ≡ true → digit_of c ≤ 9
unfolding is_in
digit-bound c e = go (leb 48 c) refl e where
  go : (b : Bool) → leb 48 c ≡ b → (b && leb c 57) ≡ true → digit_of c ≤ 9
  go true p q = let l = leb-true c 57 q in rw (lt-ltb c 58 (omega arith)) (omega arith)
  go false p q = let z : ◌≡◌ {A = ℕ} 0 1 = cc in absurd (omega arith)

bound : (s : List ℕ) (a : ℕ) → run Decimal s ≡ length s → value_from 10 a s < suc a * 10 ^ length s
unfolding run value_from
bound [] a h = omega arith
bound (c ∷ cs) a h = go (is_in Decimal c) refl h (bound cs (a * 10 + digit_of c)) where
  go : (b : Bool) → is_in Decimal c ≡ b → cond b (suc (run Decimal cs)) 0 ≡ suc (length cs)
      → (run Decimal cs ≡ length cs → value_from 10 (a * 10 + digit_of c) cs < suc (a * 10 + digit_of c) * 10 ^ length cs)
      → value_from 10 (a * 10 + digit_of c) cs < suc a * 10 ^ suc (length cs)
  go true p q ih =
      let d = digit-bound c p in
      let u = ih (omega arith) in
      let m : suc (a * 10 + digit_of c) * 10 ^ length cs ≤ suc a * 10 * 10 ^ length cs = mul-le-mul_right (10 ^ length cs) (omega arith) in
      rw (pow-succ' 10 (length cs), ← mul_assoc (suc a) 10 (10 ^ length cs)) (omega arith)
  go false p q ih = absurd (omega arith)

pub digits : (s : List ℕ) (r : ℕ) → is_in Positive (first s) ≡ true → all Decimal s ≡ true → length s ≤ 2 → r ≡ min (value 10 s) cap
    → (r ≡ bits_of s) × (r ≤ 99)
digits s r p q h e =
    let b = bound s 0 (eqb-true _ _ q) in
    let u : value 10 s < 100 = small (length s) h b in
    let v : r ≡ value 10 s = omega arith in
    (rw (p, q, le-leb (length s) 2 h) v, omega arith) where
      small : (n : ℕ) → n ≤ 2 → value 10 s < suc 0 * 10 ^ n → value 10 s < 100
      small zero k b = omega arith
      small (suc zero) k b = omega arith
      small (suc (suc zero)) k b = omega arith
      small (suc (suc (suc n))) k b = absurd (omega arith)

-- ── a base ──

pub read_as : (s t u : List ℕ) (n w : ℕ) (o r : Base) → n ≡ run Letter s → t ≡ take n s → u ≡ drop n s → w ≡ bits_of u → o ≡ nested s
    → r ≡ primitive t w o → r ≡ primitive (take (run Letter s) s) (bits_of (drop (run Letter s) s)) (nested s)
read_as s t u n w o r en et eu ew eo er =
    let t' : t ≡ take (run Letter s) s = et ∙ ap (λ (k : ℕ). take k s) en in
    let w' : w ≡ bits_of (drop (run Letter s) s) = ew ∙ ap bits_of (eu ∙ ap (λ (k : ℕ). drop k s) en) in
    er ∙ (ap (λ (x : List ℕ). primitive x w o) t' ∙ (ap (λ (x : ℕ). primitive (take (run Letter s) s) x o) w'
    ∙ ap (λ (x : Base). primitive (take (run Letter s) s) (bits_of (drop (run Letter s) s)) x) eo))

-- no type has no bits
pub no_bits : (l : List ℕ) (o : Base) → o ≡ primitive l 0 o
no_bits l o = go (same l (chars "int")) (same l (chars "uint")) (same l (chars "float")) (same l (chars "void")) where
  go : (a b c d : Bool) → o ≡ cond (a && false) (Signed 0) (cond (b && false) (Unsigned 0) (cond (c && false) (Floating 0) (cond (d && false) (Void 0) o)))
  go a b c d = simp (and-false a, and-false b, and-false c, and-false d)

-- ── its bits ──

chosen : (t : Bool) (x y : Base) → (t ≡ true → is_sized x ≡ true) → is_sized y ≡ true → is_sized (cond t x y) ≡ true
chosen true x y h k = h refl
chosen false x y h k = k

-- by the tests for each kind of type, the first that holds
module _ (n : ℕ) (other : Base) (h : is_sized other ≡ true) where
  later-sized : (f v : Bool) → is_sized (cond f (Floating n) (cond v (Void n) other)) ≡ true
  later-sized f v = chosen f (Floating n) (cond v (Void n) other) (λ e. refl) (chosen v (Void n) other (λ e. refl) h)

  kind-sized : (a b f v : Bool)
      → is_sized (cond (a && within 2 64 n) (Signed n) (cond (b && within 2 64 n) (Unsigned n) (cond f (Floating n) (cond v (Void n) other)))) ≡ true
  kind-sized a b f v =
      let later = cond f (Floating n) (cond v (Void n) other) in
      chosen (a && within 2 64 n) (Signed n) (cond (b && within 2 64 n) (Unsigned n) later) (λ e. (both a (within 2 64 n) e).1)
      (chosen (b && within 2 64 n) (Unsigned n) later (λ e. (both b (within 2 64 n) e).1) (later-sized f v))

-- the base of a type word has a number of bits that there is
pub sized : (s : List ℕ) (b : Base) → b ≡ base_of s → is_sized b ≡ true
unfolding base_of
sized s b e = ap is_sized e ∙ go (take (run Letter s) s) (bits_of (drop (run Letter s) s)) where
  go : (l : List ℕ) (n : ℕ) → is_sized (cond (same s (chars "bool")) Boolean (primitive l n (nested s))) ≡ true
  go l n =
      chosen (same s (chars "bool")) Boolean (primitive l n (nested s)) (λ t. refl)
      (kind-sized n (nested s) (chosen (is_dotted s && (not (has_dot s) || leb (length s) name_max)) Nested Unknown (λ t. refl) refl)
      (same l (chars "int")) (same l (chars "uint")) (same l (chars "float") && (eqb n 16 || (eqb n 32 || eqb n 64)))
      (same l (chars "void") && within 1 64 n))
