-- Patterns and the logic's f32.
use mathlib.Core.Path.{◌≡◌, refl, sym, ap, ap₂, ◌∙◌, subst}
use mathlib.Core.Bool.{Bool, true, false, not, cond}
use Prim.Native.Nat.{ℕ, zero, suc, ◌+◌, ◌-◌, ◌*◌, ◌/◌, ◌%◌, ◌^◌, ◌≤◌, ◌<◌, min}
use native.Mathlib.Decide.{dec_lt}
use native.Mathlib.Omega.{arith}
use lib.Dec.{T, leb, eqb, leb→le, nleb→lt, eqb→eq, not_T}
use lib.Arith.{le→nltb}
use lib.IntN.{ℤ}
use lib.Count.{count_trailing_zeros}
use lib.Ieee.{Float, nan, inf, fin, down, minus, binary32, fits, of_bits, to_bits, of_fields, odd, ne, div, is_nan, nan_bits}
use lib.Ieee.Bits.{cond_no, to_bits-of_bits, of_bits-to_bits, to_bits-lt, nan_bits_is, nan_bits_above}
use lib.Ieee.Digits.{odd_val}
use lib.Ieee.Compare.{differs_from_itself, nan_differs}
use Rattle.binary16.specs.Format.{significand, scale, magnitude, Number, sign16, code16, code32, value16, value32}
use Rattle.binary16.specs.Convert.{widened_code, widened, narrowed}
use Rattle.binary16.specs.Laws.{Finite16, Finite32, Is, Floats}
use Rattle.binary16.proofs.Wide.{wide-finite}
use Rattle.binary16.proofs.Whole.{widened-nan, widened-infinite, widened-finite, narrowed-nan, widening-law}

-- ── NaN ──
pub nan_pattern : to_bits binary32 nan ≡ 0x7FC00000
unfolding to_bits
nan_pattern = refl

pub nan-read : of_bits binary32 0x7FC00000 ≡ nan
unfolding of_bits
nan-read = refl

pub nan-made : div binary32 (of_bits binary32 0) (of_bits binary32 0) ≡ nan
unfolding of_bits div
nan-made = refl

pub nan-out : narrowed (to_bits binary32 nan) ≡ 0x7E00
nan-out = ap narrowed nan_pattern ∙ narrowed-nan 0x7FC00000 (omega arith)

pub out-of-nan : (x : Float) → ne x x ≡ true → narrowed (to_bits binary32 x) ≡ 0x7E00
out-of-nan x e = ap (λ (y : Float). narrowed (to_bits binary32 y)) (differs_from_itself x (subst T (sym e) tt)) ∙ nan-out

true-false : {A : Type 0} → true ≡ false → A
true-false e = absurd (subst T e tt)

pub no_nan : (x : Float) → ne x x ≡ false → T (not (is_nan x))
unfolding is_nan
no_nan nan e = true-false (sym nan_differs ∙ e)
no_nan (inf s) e = tt
no_nan (fin s m e') e = tt

-- what comes in is a NaN's pattern at 0x7FC00000 alone
pub widened-lt : (h : ℕ) → h < 2 ^ 16 → widened h < 2 ^ 32
widened-lt h b = go (dec_lt (code16 h) 0x7C00) (dec_lt 0x7C00 (code16 h))
  where
    go : Dec (code16 h < 0x7C00) → Dec (0x7C00 < code16 h) → widened h < 2 ^ 32
    go (yes l) _ = let w : widened_code (code16 h) < 0x47800000 = wide-finite (code16 h) l in let e : widened h ≡ sign16 h * 0x80000000 + widened_code (code16 h) = widened-finite h l in omega arith
    go (no n) (yes l) = rw (widened-nan h l) (omega arith)
    go (no n) (no k) = let e : widened h ≡ sign16 h * 0x80000000 + 0x7F800000 = widened-infinite h (omega arith) in omega arith

code-le : (h : ℕ) → code16 h ≤ 0x7C00 → code32 (widened h) ≤ 0x7F800000
code-le h k = go (dec_lt (code16 h) 0x7C00)
  where
    go : Dec (code16 h < 0x7C00) → code32 (widened h) ≤ 0x7F800000
    go (yes l) = let w : code32 (widened h) < 0x7F800000 = widening-law.finite h l in omega arith
    go (no n) = let e : widened h ≡ sign16 h * 0x80000000 + 0x7F800000 = widened-infinite h (omega arith) in omega arith

pub no-nan-bits : (h : ℕ) → code16 h ≤ 0x7C00 → T (not (nan_bits binary32 (widened h)))
no-nan-bits h k = rw (nan_bits_above binary32 (widened h)) (le→nltb 0x7F800000 (code32 (widened h)) (code-le h k))

pub no-nan-in : (h : ℕ) → (widened h ≡ 0x7FC00000 → ⊥) → T (not (nan_bits binary32 (widened h)))
no-nan-in h d = go (dec_lt 0x7C00 (code16 h))
  where
    go : Dec (0x7C00 < code16 h) → T (not (nan_bits binary32 (widened h)))
    go (yes l) = absurd (d (widened-nan h l))
    go (no n) = no-nan-bits h (omega arith)

-- ── the number of a finite pattern ──
odd_is : (d : ℕ) (s : Bool) (q k : ℕ) (y : Number) → cond s 1 0 ≡ y.sign → q * 2 ^ k ≡ y.size → Is (odd d s q k 149) y
unfolding odd
odd_is d s zero k y a b = (a, odd_val d s zero k 149 ∙ ap (λ (x : ℕ). x * 1) b)
odd_is d s (suc q) k y a b = (a, odd_val d s (suc q) k 149 ∙ ap (λ (x : ℕ). x * down (minus (k + count_trailing_zeros d (suc q)) 149)) b)

fields-is : (s : Bool) (f t : ℕ) (y : Number) → f < 255 → cond s 1 0 ≡ y.sign → (min f 1 * 0x800000 + t) * 2 ^ (f - 1) ≡ y.size → Is (of_fields binary32 s f t) y
unfolding of_fields
fields-is s zero t y l a b = odd_is 24 s t 0 y a (omega arith)
fields-is s (suc f) t y l a b =
    let p : 0x800000 + t ≡ min (suc f) 1 * 0x800000 + t = omega arith in
    let e : f ≡ suc f - 1 = omega arith in
    subst (λ (v : Float). Is v y) (sym (cond_no (eqb (suc f) 255) _ _ (not_T (eqb (suc f) 255) (λ u. let q : suc f ≡ 255 = eqb→eq (suc f) 255 u in omega arith))))
    (odd_is 24 s (0x800000 + t) f y a (ap₂ (λ (i j : ℕ). i * 2 ^ j) p e ∙ b))

sign-is : (x : ℕ) → x < 2 ^ 32 → cond (leb 0x80000000 x) 1 0 ≡ x / 0x80000000
sign-is x h = go (leb 0x80000000 x) (leb→le 0x80000000 x) (nleb→lt 0x80000000 x)
  where
    go : (b : Bool) → (T b → 0x80000000 ≤ x) → (T (not b) → x < 0x80000000) → cond b 1 0 ≡ x / 0x80000000
    go true p q = let l : 0x80000000 ≤ x = p tt in omega arith
    go false p q = let l : x < 0x80000000 = q tt in omega arith

number-law : (x : ℕ) → x < 2 ^ 32 → Finite32 x → Is (of_bits binary32 x) (value32 x)
unfolding of_bits value32 magnitude significand scale
number-law x h l =
    fields-is (leb 0x80000000 x) (x % 0x80000000 / 0x800000) (x % 0x800000) (value32 x) (omega arith) (sign-is x h)
    (let e : x % 0x800000 ≡ x % 0x80000000 % 0x800000 = omega arith in
    ap (λ (t : ℕ). (min (x % 0x80000000 / 0x800000) 1 * 0x800000 + t) * 2 ^ (x % 0x80000000 / 0x800000 - 1)) e)

exact-law : (h : ℕ) → h < 2 ^ 16 → Finite16 h → Is (of_bits binary32 (widened h)) (value16 h)
exact-law h b l = subst (λ (y : Number). Is (of_bits binary32 (widened h)) y) (widening-law.exact h l) (number-law (widened h) (widened-lt h b) (widening-law.finite h l))

pattern-back : (h : ℕ) → h < 2 ^ 16 → code16 h ≤ 0x7C00 → to_bits binary32 (of_bits binary32 (widened h)) ≡ widened h
pattern-back h b k =
    to_bits-of_bits binary32 (widened h) (widened-lt h b) (subst (λ (t : Bool). T (not t)) (nan_bits_is binary32 (widened h)) (no-nan-bits h k))

back-law : (h : ℕ) → h < 2 ^ 16 → code16 h ≤ 0x7C00 → narrowed (to_bits binary32 (of_bits binary32 (widened h))) ≡ h
back-law h b k = ap narrowed (pattern-back h b k) ∙ widening-law.back h k

nan-in : (h : ℕ) → 0x7C00 < code16 h → of_bits binary32 (widened h) ≡ nan
nan-in h l = ap (of_bits binary32) (widened-nan h l) ∙ nan-read

again-law : (h : ℕ) → h < 2 ^ 16 → (x : Float) → x ≡ of_bits binary32 (widened h) → of_bits binary32 (widened (narrowed (to_bits binary32 x))) ≡ x
again-law h b x e = go (dec_lt 0x7C00 (code16 h))
  where
    go : Dec (0x7C00 < code16 h) → of_bits binary32 (widened (narrowed (to_bits binary32 x))) ≡ x
    go (no n) = ap (λ (y : Float). of_bits binary32 (widened (narrowed (to_bits binary32 y)))) e ∙ ap (λ (y : ℕ). of_bits binary32 (widened y)) (back-law h b (omega arith)) ∙ sym e
    go (yes l) =
        let i : x ≡ nan = e ∙ nan-in h l in
        ap (λ (y : Float). of_bits binary32 (widened (narrowed (to_bits binary32 y)))) i ∙ ap (λ (y : ℕ). of_bits binary32 (widened y)) nan-out ∙ nan-in 0x7E00 (omega arith) ∙ sym i

-- ── the pattern of a finite f32 ──
not-fin : (b s z : Bool) (m : ℕ) (e : ℤ) → cond b (inf s) nan ≡ fin z m e → ⊥
not-fin true s z m e i = let j : ◌≡◌ {A = ℕ} 0 1 = cc in omega arith
not-fin false s z m e i = let j : ◌≡◌ {A = ℕ} 0 1 = cc in omega arith

fields-end : (s : Bool) (f t : ℕ) (z : Bool) (m : ℕ) (e : ℤ) → f ≡ 255 → of_fields binary32 s f t ≡ fin z m e → ⊥
unfolding of_fields
fields-end s f t z m e i j = not-fin (eqb t 0) s z m e (subst (λ (x : ℕ). of_fields binary32 s x t ≡ fin z m e) i j)

pattern-end : (x : ℕ) (z : Bool) (m : ℕ) (e : ℤ) → 0x7F800000 ≤ code32 x → of_bits binary32 x ≡ fin z m e → ⊥
unfolding of_bits
pattern-end x z m e l j = fields-end (leb 0x80000000 x) (x % 0x80000000 / 0x800000) (x % 0x800000) z m e (omega arith) j

pattern-law : (s : Bool) (m : ℕ) (e : ℤ) → T (fits binary32 (fin s m e)) → Finite32 (to_bits binary32 (fin s m e))
pattern-law s m e t = go (dec_lt (code32 (to_bits binary32 (fin s m e))) 0x7F800000)
  where
    go : Dec (code32 (to_bits binary32 (fin s m e)) < 0x7F800000) → Finite32 (to_bits binary32 (fin s m e))
    go (yes l) = l
    go (no n) = absurd (pattern-end (to_bits binary32 (fin s m e)) s m e (omega arith) (of_bits-to_bits binary32 (fin s m e) t))

value-law : (s : Bool) (m : ℕ) (e : ℤ) → T (fits binary32 (fin s m e)) → Is (fin s m e) (value32 (to_bits binary32 (fin s m e)))
value-law s m e t =
    subst (λ (v : Float). Is v (value32 (to_bits binary32 (fin s m e)))) (of_bits-to_bits binary32 (fin s m e) t)
    (number-law (to_bits binary32 (fin s m e)) (to_bits-lt binary32 (fin s m e) t) (pattern-law s m e t))

infinite-law : (s : Bool) → to_bits binary32 (inf s) ≡ cond s 0x80000000 0 + 0x7F800000
unfolding to_bits
infinite-law s = refl

pub floats-law : Floats
floats-law =
    record {
      number = number-law;
      value = value-law;
      pattern = pattern-law;
      infinite = infinite-law;
      exact = exact-law;
      back = back-law;
      nan-in = nan-in;
      nan-out = nan-out;
      again = again-law;
    }
