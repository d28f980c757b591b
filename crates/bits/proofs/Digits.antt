-- Laws of `digits` and `value`.
use mathlib.Core.Path.{◌≡◌, refl, sym, ap, ◌∙◌}
use mathlib.Core.Bool.{Bool, true, false}
use mathlib.Core.List.{List, [], ◌∷◌, ◌++◌, append_assoc, append-nil}
use Prim.Native.Nat.{ℕ, zero, suc, ◌+◌, ◌*◌, ◌/◌, ◌%◌, ◌^◌, ◌<◌}
use native.Mathlib.Nat.{add-zero, zero-add, pow-suc, mod-lt, mod-eq_of_lt, div-add-mod', mul-add-mod_self_right, mul_assoc}
use native.Mathlib.Omega.{arith}
use lib.Dec.{eqb}
use lib.Pow.{pow_pos, shr-shr, high, low}
use lib.ListN.{length, take, drop, length-append}
use lib.Seq.{take_at, drop_at}
use Rattle.bits.specs.Order.{one, odd, digits, value_from, value}

pub one-odd : (n : ℕ) → one (odd n) ≡ n % 2
one-odd n = go (n % 2) (omega arith) where
  go : (m : ℕ) → m < 2 → one (eqb m 1) ≡ m
  go zero h = refl
  go (suc zero) h = refl
  go (suc (suc m)) h = absurd (omega arith)

odd-twice : (a : ℕ) (b : Bool) → odd (a + a + one b) ≡ b
odd-twice a true = let e : (a + a + 1) % 2 ≡ 1 = omega arith in rw e
odd-twice a false = let e : (a + a + 0) % 2 ≡ 0 = omega arith in rw e

half_twice : (a : ℕ) (b : Bool) → (a + a + one b) / 2 ≡ a
half_twice a true = omega arith
half_twice a false = omega arith

pub length_digits : (k n : ℕ) → length (digits k n) ≡ k
unfolding digits
length_digits zero n = refl
length_digits (suc k) n = simp length-append (omega (arith, length_digits k (n / 2)))

pub value-append : (a : ℕ) (xs ys : List Bool) → value_from a (xs ++ ys) ≡ value_from (value_from a xs) ys
unfolding value_from
value-append a [] ys = refl
value-append a (x ∷ xs) ys = value-append (a + a + one x) xs ys

-- the number read from the k lowest bits of n
pub value-digits : (k n : ℕ) → value (digits k n) ≡ n % 2 ^ k
unfolding digits value_from
value-digits zero n = omega arith
value-digits (suc k) n =
    let ih : value (digits k (n / 2)) ≡ n / 2 % 2 ^ k = value-digits k (n / 2) in
    let p : 2 ^ suc k ≡ 2 ^ k * 2 = pow-suc 2 k in
    let o : one (odd n) ≡ n % 2 = one-odd n in
    let t = n / 2 % 2 ^ k + n / 2 % 2 ^ k + n % 2 in
    let l : n / 2 % 2 ^ k < 2 ^ k = mod-lt (n / 2) (pow_pos k) in
    let d : n / 2 / 2 ^ k * 2 ^ k + n / 2 % 2 ^ k ≡ n / 2 = div-add-mod' (n / 2) (2 ^ k) in
    let m : n / 2 / 2 ^ k * 2 ^ k * 2 ≡ n / 2 / 2 ^ k * (2 ^ k * 2) = mul_assoc (n / 2 / 2 ^ k) (2 ^ k) 2 in
    let e : n / 2 / 2 ^ k * (2 ^ k * 2) + t ≡ n = omega arith in
    let f : n % (2 ^ k * 2) ≡ t = ap (λ (x : ℕ). x % (2 ^ k * 2)) (sym e) ∙ mul-add-mod_self_right (n / 2 / 2 ^ k) (2 ^ k * 2) t ∙ mod-eq_of_lt (omega arith) in
    value-append 0 (digits k (n / 2)) (odd n ∷ []) ∙ rw (ih, o, p, f)

-- bits give their number, and the number gives them back
digits_from : (m a : ℕ) (bs : List Bool) → digits (m + length bs) (value_from a bs) ≡ digits m a ++ bs
unfolding digits value_from
digits_from m a [] = rw (add-zero, append-nil)
digits_from m a (b ∷ bs) =
    let s : m + suc (length bs) ≡ suc m + length bs = omega arith in
    rw s (digits_from (suc m) (a + a + one b) bs ∙ rw (odd-twice, half_twice) (append_assoc (digits m a) (b ∷ []) bs))

pub digits_value : (k : ℕ) (bs : List Bool) → length bs ≡ k → digits k (value bs) ≡ bs
unfolding digits
digits_value k bs e = rw (← e, ← zero-add (length bs)) (digits_from 0 0 bs)

pub value-lt : (bs : List Bool) → value bs < 2 ^ length bs
value-lt bs =
    let e : value (digits (length bs) (value bs)) ≡ value bs % 2 ^ length bs = value-digits (length bs) (value bs) in
    let f : value (digits (length bs) (value bs)) ≡ value bs = ap (λ (l : List Bool). value l) (digits_value (length bs) bs refl) in
    let l : value bs % 2 ^ length bs < 2 ^ length bs = mod-lt (value bs) (pow_pos (length bs)) in
    omega arith

-- the high bits, then the low bits
pub digits-add : (m k n : ℕ) → digits (m + k) n ≡ digits m (n / 2 ^ k) ++ digits k n
unfolding digits
digits-add m zero n = let e : n / 2 ^ 0 ≡ n = omega arith in rw (add-zero, e, append-nil)
digits-add m (suc k) n =
    let s : m + suc k ≡ suc (m + k) = omega arith in
    let h : n / 2 / 2 ^ k ≡ n / 2 ^ suc k = shr-shr n 1 k ∙ ap (λ (j : ℕ). n / 2 ^ j) (omega arith) in
    rw (s, digits-add m k (n / 2), h) (append_assoc (digits m (n / 2 ^ suc k)) (digits k (n / 2)) (odd n ∷ []))

-- the k lowest bits do not see what is above them
pub digits-mod-pow : (k n : ℕ) → digits k (n % 2 ^ k) ≡ digits k n
digits-mod-pow k n = ap (λ (v : ℕ). digits k v) (sym (value-digits k n)) ∙ digits_value k (digits k n) (length_digits k n)

pub digits-join : (m k a b : ℕ) → b < 2 ^ k → digits (m + k) (a * 2 ^ k + b) ≡ digits m a ++ digits k b
digits-join m k a b h =
    let d : (a * 2 ^ k + b) / 2 ^ k ≡ a = high a k h in
    let r : (a * 2 ^ k + b) % 2 ^ k ≡ b = low a k h in
    digits-add m k (a * 2 ^ k + b) ∙ ap (λ (x : ℕ). digits m x ++ digits k (a * 2 ^ k + b)) d
    ∙ ap (λ (l : List Bool). digits m a ++ l) (sym (digits-mod-pow k (a * 2 ^ k + b)) ∙ ap (λ (x : ℕ). digits k x) r)

-- k bits in the middle of a number's bits
pub digits-middle : (o k r x : ℕ) (rest : List Bool) → take k (drop o (digits (o + (k + r)) x ++ rest)) ≡ digits k (x / 2 ^ r)
digits-middle o k r x rest =
    let e : digits (o + (k + r)) x ++ rest ≡ digits o (x / 2 ^ (k + r)) ++ (digits k (x / 2 ^ r) ++ (digits r x ++ rest)) = rw (digits-add o (k + r) x, digits-add k r x) (simp append_assoc) in
    ap (λ (l : List Bool). take k (drop o l)) e
    ∙ ap (λ (l : List Bool). take k l) (drop_at (digits o (x / 2 ^ (k + r))) (digits k (x / 2 ^ r) ++ (digits r x ++ rest)) o (length_digits o (x / 2 ^ (k + r))))
    ∙ take_at (digits k (x / 2 ^ r)) (digits r x ++ rest) k (length_digits k (x / 2 ^ r))
