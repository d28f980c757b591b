-- A finite f32 going out, without its sign: no finite binary16 is nearer, and of two that are as near the even one is taken.
use mathlib.Core.Path.{◌≡◌, refl, sym, ap, ◌∙◌, subst}
use mathlib.Core.Logic.{◌⊎◌, inl, inr}
use Prim.Native.Nat.{ℕ, zero, suc, ◌+◌, ◌-◌, ◌*◌, ◌/◌, ◌%◌, ◌^◌, ◌≤◌, ◌<◌, min, compare}
use native.Mathlib.Decide.{dec_lt, dec_le}
use native.Mathlib.Nat.{lt_of_lt_of_le, lt_of_le_of_lt, le_trans, le_of_eq, mul-le-mul, mul-le-mul_right, mul_assoc, le-div_iff_mul-le, mul-lt-mul_of_pos_right, le_antisymm}
use native.Mathlib.Omega.{arith}
use lib.Pow.{pow_pos, pow_mono, pow-add, shr_lt}
use lib.Ieee.Fits.{nearest-le}
use lib.Ieee.Nearest.{closest, closest_same, nearest-ge}
use Rattle.binary16.specs.Format.{significand, scale, magnitude, between}
use Rattle.binary16.specs.Convert.{rounded_code}
use Rattle.binary16.proofs.Pack.{pack, significand-lt, significand-ge, magnitude-is}
use Rattle.binary16.proofs.Shift.{shift1, shift2, pow-sum}
use Rattle.binary16.proofs.Round.{Near, near, nearer, tied}
use Rattle.binary16.proofs.Wide.{rounded-is, scale-le}

-- 2 ^ 154, shut, so that no long numeral stands in a goal
top : ℕ
top = 2 ^ 154

top-is : 2 ^ 154 ≡ top
unfolding top
top-is = refl

top-twice : 2 ^ 155 ≡ top * 2
unfolding top
top-twice = refl

top_pos : 0 < top
top_pos = subst (λ (x : ℕ). 0 < x) top-is (pow_pos 154)

largest : magnitude 10 0x7BFF * 2 ^ 125 ≡ 2047 * top
unfolding top magnitude significand scale
largest = refl

at-most : (h : ℕ) → h < 0x7C00 → magnitude 10 h * 2 ^ 125 ≤ 2047 * top
at-most h l =
    let a : significand 10 h ≤ 2047 = let b : significand 10 h < 2 ^ 10 + 2 ^ 10 = significand-lt 10 h in omega arith in
    let m : significand 10 h * 2 ^ scale 10 h ≤ 2047 * 2 ^ 29 = mul-le-mul a (pow_mono (scale-le h l)) in
    le_trans (le_of_eq (ap (λ (x : ℕ). x * 2 ^ 125) (magnitude-is 10 h)))
    (le_trans (mul-le-mul_right (2 ^ 125) m) (le_of_eq (mul_assoc 2047 (2 ^ 29) (2 ^ 125) ∙ ap (λ (x : ℕ). 2047 * x) top-is)))

-- short names
abbrev pub size16 : ℕ → ℕ
size16 r = magnitude 10 r * 2 ^ 125

abbrev pub out_code : ℕ → ℕ
out_code c = min 0x7BFF (rounded_code c)

abbrev unit : ℕ → ℕ
unit k = 2 ^ (125 + k)

abbrev quotient : ℕ → ℕ → ℕ
quotient c k = closest (magnitude 23 c) (unit k)

-- a binary16 is a multiple of the unit, or lies below all sizes n that are rounded by this unit
abbrev Grid : ℕ → ℕ → ℕ → Type 0
Grid n k h = ((w : ℕ) × (size16 h ≡ w * unit k)) ⊎ ((size16 h < 1024 * unit k) × (1024 * unit k ≤ n))

unit-pos : (k : ℕ) → 0 < unit k
unit-pos k = pow_pos (125 + k)

-- rounding by a unit of k places above the lowest
module _ (c k : ℕ) (is : scale 23 c - 112 ≡ k) where
  pub same : quotient c k ≡ closest (significand 23 c) (2 ^ (13 + (112 - scale 23 c)))
  same =
      closest_same (magnitude 23 c) (unit k) (significand 23 c) (2 ^ (13 + (112 - scale 23 c))) (unit-pos k) (pow_pos (13 + (112 - scale 23 c)))
      (ap (λ (x : ℕ). x * 2 ^ (13 + (112 - scale 23 c))) (magnitude-is 23 c)
      ∙ shift1 (significand 23 c) (scale 23 c) (13 + (112 - scale 23 c)) (125 + k) (omega arith))

  pub q-le : quotient c k ≤ 2048
  q-le =
      let a : significand 23 c < 2 ^ (11 + (13 + (112 - scale 23 c))) =
      lt_of_lt_of_le (significand-lt 23 c) (pow_mono {i = 24} (omega arith)) in
      let b : significand 23 c / 2 ^ (13 + (112 - scale 23 c)) < 2 ^ 11 = shr_lt 11 (13 + (112 - scale 23 c)) a in
      rw same (le_trans (nearest-le (significand 23 c / 2 ^ (13 + (112 - scale 23 c))) (compare (significand 23 c % 2 ^ (13 + (112 - scale 23 c)) * 2) (2 ^ (13 + (112 - scale 23 c))))) b)

  full : 0 < k → 2 ^ 23 ≤ significand 23 c
  full h = significand-ge 23 c (omega arith)

  pub n-ge : 0 < k → 1024 * unit k ≤ magnitude 23 c
  n-ge h =
      le_trans (le_of_eq (pow-sum 10 (125 + k) (23 + scale 23 c) (omega arith) ∙ pow-add 2 23 (scale 23 c)))
      (le_trans (mul-le-mul_right (2 ^ scale 23 c) (full h)) (le_of_eq (sym (magnitude-is 23 c))))

  pub q-ge : 0 < k → 1024 ≤ quotient c k
  q-ge h =
      le_trans ((le-div_iff_mul-le (unit-pos k)).1 (n-ge h))
      (nearest-ge (magnitude 23 c / unit k) (compare (magnitude 23 c % unit k * 2) (unit k)))

  pub n-lt : magnitude 23 c < 2048 * unit k
  n-lt =
      lt_of_le_of_lt (le_of_eq (magnitude-is 23 c))
      (lt_of_lt_of_le (mul-lt-mul_of_pos_right (significand-lt 23 c) (pow_pos (scale 23 c)))
      (le_trans (le_of_eq (pow-sum 24 (scale 23 c) (24 + scale 23 c) refl))
      (le_trans (pow_mono {j = 11 + (125 + k)} (omega arith)) (le_of_eq (pow-add 2 11 (125 + k))))))

  raw : magnitude 10 (k * 1024 + quotient c k) * 2 ^ 125 ≡ quotient c k * unit k
  raw =
      ap (λ (x : ℕ). x * 2 ^ 125) (pack 10 k (quotient c k) (go (dec_lt 0 k)) q-le)
      ∙ shift1 (quotient c k) k 125 (125 + k) (omega arith)
    where
      go : Dec (0 < k) → (k ≡ 0) ⊎ (2 ^ 10 ≤ quotient c k)
      go (yes y) = inr (q-ge y)
      go (no n) = inl (omega arith)

  grid : (h : ℕ) → Grid (magnitude 23 c) k h
  grid h = go (dec_le k (scale 10 h))
    where
      value : size16 h ≡ significand 10 h * 2 ^ scale 10 h * 2 ^ 125
      value = ap (λ (x : ℕ). x * 2 ^ 125) (magnitude-is 10 h)

      go : Dec (k ≤ scale 10 h) → Grid (magnitude 23 c) k h
      go (yes y) =
          inl (
            significand 10 h * 2 ^ (scale 10 h - k),
            value ∙ shift2 (significand 10 h) (scale 10 h) 125 (scale 10 h - k) (125 + k) (omega arith),
          )
      go (no n) =
          inr (
            lt_of_le_of_lt (le_of_eq (value ∙ shift1 (significand 10 h) (scale 10 h) 125 (scale 10 h + 125) refl))
                (lt_of_lt_of_le (mul-lt-mul_of_pos_right (significand-lt 10 h) (pow_pos (scale 10 h + 125)))
                (le_trans (le_of_eq (pow-sum 11 (scale 10 h + 125) (11 + (scale 10 h + 125)) refl))
                (le_trans (pow_mono {j = 10 + (125 + k)} (omega arith)) (le_of_eq (pow-add 2 10 (125 + k)))))),
            n-ge (omega arith),
          )

  -- what the last pattern comes to
  over : 0x7BFF < k * 1024 + quotient c k → 2047 * top ≤ magnitude 23 c
  over h = go (quotient c k) (near (magnitude 23 c) (unit k) (unit-pos k)) q-le h (dec_lt 29 k)
    where
      go : (q : ℕ) → Near (magnitude 23 c) (unit k) q → q ≤ 2048 → 0x7BFF < k * 1024 + q → Dec (29 < k) → 2047 * top ≤ magnitude 23 c
      go q v l b (yes y) =
          let t : top * 2 ≤ unit k = le_trans (le_of_eq (sym top-twice)) (pow_mono {i = 155} {j = 125 + k} (omega arith)) in
          let n : 1024 * unit k ≤ magnitude 23 c = n-ge (omega arith) in
          omega arith
      go q v l b (no x) =
          let e : k ≡ 29 = omega arith in
          let f : q ≡ 2048 = omega arith in
          let t : unit k ≡ top = ap (λ (x : ℕ). 2 ^ (125 + x)) e ∙ top-is in
          let a : 2048 * unit k * 2 ≤ magnitude 23 c * 2 + unit k = subst (λ (x : ℕ). x * unit k * 2 ≤ magnitude 23 c * 2 + unit k) f v.over in
          omega arith

  reaches : 2047 * top ≤ magnitude 23 c → 0x7BFF ≤ k * 1024 + quotient c k
  reaches h = go (dec_lt k 29) (dec_lt 29 k)
    where
      go : Dec (k < 29) → Dec (29 < k) → 0x7BFF ≤ k * 1024 + quotient c k
      go (yes y) _ =
          let t : unit k * 2 ≤ top =
          le_trans (le_of_eq (pow-sum (125 + k) 1 (125 + k + 1) refl)) (le_trans (pow_mono {i = 125 + k + 1} {j = 154} (omega arith)) (le_of_eq top-is)) in
          let n : magnitude 23 c < 2048 * unit k = n-lt in
          let p : 0 < top = top_pos in
          absurd (omega arith)
      go (no x) (yes y) = let q : 1024 ≤ quotient c k = q-ge (omega arith) in omega arith
      go (no x) (no y) =
          let e : k ≡ 29 = omega arith in
          let t : unit k ≡ top = ap (λ (x : ℕ). 2 ^ (125 + x)) e ∙ top-is in
          let a : 2047 * unit k ≤ magnitude 23 c = rw t h in
          let q : 2047 ≤ quotient c k =
          le_trans ((le-div_iff_mul-le (unit-pos k)).1 a)
          (nearest-ge (magnitude 23 c / unit k) (compare (magnitude 23 c % unit k * 2) (unit k))) in
          omega arith

-- the size n went out as the pattern r: as the multiple q of the unit u, or as the largest
data Out (n r : ℕ) : Type 0 where
  rounded : (k q : ℕ) → Near n (unit k) q → r ≡ k * 1024 + q → size16 r ≡ q * unit k
      → ((h : ℕ) → Grid n k h)
      → Out n r
  clipped : size16 r ≡ 2047 * top → 2047 * top ≤ n → Out n r

out : (c : ℕ) → Out (magnitude 23 c) (out_code c)
out c = go (dec_lt 0x7BFF (rounded_code c))
  where
    k : ℕ
    k = scale 23 c - 112

    is : rounded_code c ≡ k * 1024 + quotient c k
    is = rounded-is c k (magnitude 23 c) refl refl

    go : Dec (0x7BFF < rounded_code c) → Out (magnitude 23 c) (out_code c)
    go (yes y) =
        let e : out_code c ≡ 0x7BFF = omega arith in
        clipped (ap (λ (x : ℕ). size16 x) e ∙ largest) (over c k refl (subst (λ (x : ℕ). 0x7BFF < x) is y))
    go (no n) =
        let e : out_code c ≡ k * 1024 + quotient c k = (omega arith) ∙ is in
        rounded k (quotient c k) (near (magnitude 23 c) (unit k) (unit-pos k)) e
        (ap (λ (x : ℕ). size16 x) e ∙ raw c k refl) (grid c k refl)

below : (n r v m : ℕ) → r ≡ m → m ≤ n → v ≤ m → between n r ≤ between n v
below n r v m e a b = omega arith

equal : (n r v m : ℕ) → r ≡ m → m ≤ n → v ≤ m → between n r ≡ between n v → v ≡ r
equal n r v m e a b t = omega arith

far : (n y x b : ℕ) → between n x ≤ between n b → y < b → b ≤ n → between n x ≤ between n y
far n y x b i j m = omega arith

farther : (n y x b : ℕ) → between n x ≤ between n b → y < b → b ≤ n → between n x ≡ between n y → ⊥
farther n y x b i j m u = omega arith

out-nearer : (n r h : ℕ) → Out n r → h < 0x7C00 → between n (size16 r) ≤ between n (size16 h)
out-nearer n r h (clipped e a) l = below n _ _ (2047 * top) e a (at-most h l)
out-nearer n r h (rounded k q v s e g) l = rw e (go (g h))
  where
    go : Grid n k h
        → between n (q * unit k) ≤ between n (size16 h)
    go (inl p) = rw p.1 (nearer n (unit k) q p.0 (unit-pos k) v)
    go (inr p) = far n (size16 h) (q * unit k) (1024 * unit k) (nearer n (unit k) q 1024 (unit-pos k) v) p.0 p.1

out-tied : (n r h : ℕ) → Out n r → h < 0x7C00 → between n (size16 r) ≡ between n (size16 h)
    → (size16 h ≡ size16 r → ⊥) → r % 2 ≡ 0
out-tied n r h (clipped e a) l t d = absurd (d (equal n _ _ (2047 * top) e a (at-most h l) t))
out-tied n r h (rounded k q v s e g) l t d = go (g h)
  where
    t' : between n (q * unit k) ≡ between n (size16 h)
    t' = rw e at t

    even : q % 2 ≡ 0 → r % 2 ≡ 0
    even z = omega arith

    go : Grid n k h → r % 2 ≡ 0
    go (inl p) =
        even (tied n (unit k) q p.0 (unit-pos k) v (t' ∙ ap (between n) p.1)
        (λ (i : p.0 ≡ q). d (p.1 ∙ ap (λ (x : ℕ). x * unit k) i ∙ sym e)))
    go (inr p) = absurd (farther n (size16 h) (q * unit k) (1024 * unit k) (nearer n (unit k) q 1024 (unit-pos k) v) p.0 p.1 t')

out_none : (n r : ℕ) → Out n r → size16 r ≡ 0 → r % 2 ≡ 0
out_none n r (clipped e a) z = let p : 0 < top = top_pos in absurd (none (size16 r) top e z p)
  where
    none : (x t : ℕ) → x ≡ 2047 * t → x ≡ 0 → 0 < t → ⊥
    none x t e z p = omega arith
out_none n r (rounded k q v s e g) z = go q s (sym e ∙ z)
  where
    go : (q : ℕ) → r ≡ k * 1024 + q → q * unit k ≡ 0 → r % 2 ≡ 0
    go zero s z = omega arith
    go (suc q) s z = let p : 0 < unit k = unit-pos k in absurd (omega arith)

pub nearest-code : (c h : ℕ) → h < 0x7C00
    → between (magnitude 23 c) (size16 (out_code c)) ≤ between (magnitude 23 c) (size16 h)
nearest-code c h l = out-nearer (magnitude 23 c) (out_code c) h (out c) l

pub tied-code : (c h : ℕ) → h < 0x7C00
    → between (magnitude 23 c) (size16 (out_code c)) ≡ between (magnitude 23 c) (size16 h)
    → (size16 h ≡ size16 (out_code c) → ⊥) → out_code c % 2 ≡ 0
tied-code c h l t d = out-tied (magnitude 23 c) (out_code c) h (out c) l t d

pub none-code : (c : ℕ) → size16 (out_code c) ≡ 0 → out_code c % 2 ≡ 0
none-code c z = out_none (magnitude 23 c) (out_code c) (out c) z

limit : 65504 * 2 ^ 149 ≡ 2047 * top
unfolding top
limit = refl

pub clipped-code : (c : ℕ) → 65504 * 2 ^ 149 ≤ magnitude 23 c → out_code c ≡ 0x7BFF
clipped-code c h =
    let a : 0x7BFF ≤ rounded_code c = rw (rounded-is c (scale 23 c - 112) (magnitude 23 c) refl refl) (reaches c (scale 23 c - 112) refl (rw limit at h)) in
    omega arith

-- a larger size gives no smaller one: of sizes whose nearest ones stood the other way round both would be the middle
above : (n r s : ℕ) → s < r → between n r ≤ between n s → r + s ≤ n * 2
above n r s l a = omega arith

under : (m r s : ℕ) → s < r → between m s ≤ between m r → m * 2 ≤ r + s
under m r s l b = omega arith

middle : (n m t : ℕ) → n ≤ m → t ≤ n * 2 → m * 2 ≤ t → n ≡ m
middle n m t h a b = omega arith

apart_from : (n m r s : ℕ) → n ≤ m → s < r → between n r ≤ between n s → between m s ≤ between m r → n ≡ m
apart_from n m r s h l a b = middle n m (r + s) h (above n r s l a) (under m r s l b)

place-le : (c d : ℕ) → magnitude 23 c ≡ magnitude 23 d → scale 23 d - 112 ≤ scale 23 c - 112
place-le c d e = go (dec_lt (scale 23 c - 112) (scale 23 d - 112))
  where
    clash : (n p q : ℕ) → n < 2048 * p → 1024 * q ≤ n → p * 2 ≤ q → ⊥
    clash n p q a b l = omega arith

    go : Dec (scale 23 c - 112 < scale 23 d - 112) → scale 23 d - 112 ≤ scale 23 c - 112
    go (no n) = omega arith
    go (yes y) =
        absurd (clash (magnitude 23 d) (2 ^ (125 + (scale 23 c - 112))) (2 ^ (125 + (scale 23 d - 112)))
        (subst (λ (x : ℕ). x < 2048 * 2 ^ (125 + (scale 23 c - 112))) e (n-lt c (scale 23 c - 112) refl))
        (n-ge d (scale 23 d - 112) refl (omega arith))
        (le_trans (le_of_eq (pow-sum (125 + (scale 23 c - 112)) 1 (125 + (scale 23 c - 112) + 1) refl)) (pow_mono (omega arith))))

rounded-same : (c d : ℕ) → magnitude 23 c ≡ magnitude 23 d → rounded_code c ≡ rounded_code d
rounded-same c d e =
    rounded-is c (scale 23 d - 112) (magnitude 23 d) (le_antisymm (place-le d c (sym e)) (place-le c d e)) e
    ∙ sym (rounded-is d (scale 23 d - 112) (magnitude 23 d) refl refl)

code_lt : (c : ℕ) → out_code c < 0x7C00
code_lt c = omega arith

pub rising-code : (c d : ℕ) → magnitude 23 c ≤ magnitude 23 d
    → size16 (out_code c) ≤ size16 (out_code d)
rising-code c d h = go (size16 (out_code c)) (size16 (out_code d)) refl refl (dec_lt _ _)
  where
    go : (r s : ℕ) → size16 (out_code c) ≡ r → size16 (out_code d) ≡ s → Dec (s < r) → r ≤ s
    go r s e f (no n) = omega arith
    go r s e f (yes y) =
        let i : magnitude 23 c ≡ magnitude 23 d =
        apart_from (magnitude 23 c) (magnitude 23 d) r s h y
        (rw (← e, ← f) (nearest-code c (out_code d) (code_lt d)))
        (rw (← e, ← f) (nearest-code d (out_code c) (code_lt c))) in
        le_of_eq (sym e ∙ ap (λ (x : ℕ). magnitude 10 (min 0x7BFF x) * 2 ^ 125) (rounded-same c d i) ∙ f)
