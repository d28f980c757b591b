-- Laws of `to_bits` and `from_bits`: any width.
use mathlib.Core.Path.{◌≡◌, sym, ap, ◌∙◌}
use mathlib.Core.Bool.{Bool}
use mathlib.Core.List.{List, ◌++◌, append_assoc}
use Prim.Native.Nat.{ℕ, zero, suc, ◌+◌, ◌*◌, ◌-◌, ◌/◌, ◌%◌, ◌^◌, ◌≤◌, ◌<◌}
use native.Mathlib.Nat.{zero-add, mod-eq_of_lt}
use native.Mathlib.Omega.{arith}
use lib.Pow.{pow-add}
use lib.ListN.{length, take, drop, length-append, length-drop}
use lib.Seq.{take_at, drop_at, length-take-le, take-add}
use Rattle.bits.specs.Order.{digits, value, octets, to_bits, number, from_bits}
use Rattle.bits.proofs.Digits.{length_digits, value-digits, digits_value, digits-mod-pow, value-lt}

whole : (w : ℕ) → w / 8 * 8 + w % 8 ≡ w
whole w = omega arith

pub length-octets : (q r n : ℕ) → length (octets q r n) ≡ q * 8 + r
unfolding octets
length-octets zero r n = length_digits r n ∙ omega arith
length-octets (suc q) r n = simp length-append (omega (arith, length_digits 8 n, length-octets q r (n / 256)))

pow_more : (q r : ℕ) → 2 ^ (suc q * 8 + r) ≡ 2 ^ (q * 8 + r) * 256
pow_more q r = ap (λ (k : ℕ). 2 ^ k) (omega arith) ∙ pow-add 2 (q * 8 + r) 8

number-octets : (q r n : ℕ) (rest : List Bool) → n < 2 ^ (q * 8 + r) → number q r (octets q r n ++ rest) ≡ n
unfolding octets number
number-octets zero r n rest h =
    ap (λ (l : List Bool). value l) (take_at (digits r n) rest r (length_digits r n)) ∙ value-digits r n ∙ mod-eq_of_lt (rw zero-add at h)
number-octets (suc q) r n rest h =
    let p : 2 ^ (suc q * 8 + r) ≡ 2 ^ (q * 8 + r) * 256 = pow_more q r in
    let a : (digits 8 n ++ octets q r (n / 256)) ++ rest ≡ digits 8 n ++ (octets q r (n / 256) ++ rest) = append_assoc (digits 8 n) (octets q r (n / 256)) rest in
    let ih : number q r (octets q r (n / 256) ++ rest) ≡ n / 256 = number-octets q r (n / 256) rest (omega arith) in
    rw (a, take_at (digits 8 n) (octets q r (n / 256) ++ rest) 8 (length_digits 8 n), drop_at (digits 8 n) (octets q r (n / 256) ++ rest) 8 (length_digits 8 n), ih, value-digits 8 n) (omega arith)

octet-lt : (k : ℕ) (bs : List Bool) → k ≤ length bs → value (take k bs) < 2 ^ k
octet-lt k bs h = rw (length-take-le k bs h) at (value-lt (take k bs))

pub number_lt : (q r : ℕ) (bs : List Bool) → q * 8 + r ≤ length bs → number q r bs < 2 ^ (q * 8 + r)
unfolding number
number_lt zero r bs h = rw zero-add (octet-lt r bs (omega arith))
number_lt (suc q) r bs h =
    let l : value (take 8 bs) < 256 = octet-lt 8 bs (omega arith) in
    let d : length (drop 8 bs) ≡ length bs - 8 = length-drop 8 bs in
    let ih : number q r (drop 8 bs) < 2 ^ (q * 8 + r) = number_lt q r (drop 8 bs) (omega arith) in
    let p : 2 ^ (suc q * 8 + r) ≡ 2 ^ (q * 8 + r) * 256 = pow_more q r in
    omega arith

octets-number : (q r : ℕ) (bs : List Bool) → q * 8 + r ≤ length bs → octets q r (number q r bs) ≡ take (q * 8 + r) bs
unfolding octets number
octets-number zero r bs h = rw zero-add (digits_value r (take r bs) (length-take-le r bs (omega arith)))
octets-number (suc q) r bs h =
    let l : value (take 8 bs) < 256 = octet-lt 8 bs (omega arith) in
    let d : length (drop 8 bs) ≡ length bs - 8 = length-drop 8 bs in
    let t = value (take 8 bs) + 256 * number q r (drop 8 bs) in
    let m : digits 8 t ≡ take 8 bs = sym (digits-mod-pow 8 t) ∙ ap (λ (x : ℕ). digits 8 x) (omega arith) ∙ digits_value 8 (take 8 bs) (length-take-le 8 bs (omega arith)) in
    let e : t / 256 ≡ number q r (drop 8 bs) = omega arith in
    let n : suc q * 8 + r ≡ 8 + (q * 8 + r) = omega arith in
    rw (m, e, n, octets-number q r (drop 8 bs) (omega arith)) (sym (take-add 8 (q * 8 + r) bs))

pub length-to_bits : (w n : ℕ) → length (to_bits w n) ≡ w
unfolding to_bits
length-to_bits w n = length-octets (w / 8) (w % 8) n ∙ whole w

-- a number that fits its width comes back
pub from_bits-to_bits : (w n : ℕ) (rest : List Bool) → n < 2 ^ w → from_bits w (to_bits w n ++ rest) ≡ n
unfolding to_bits from_bits
from_bits-to_bits w n rest h = number-octets (w / 8) (w % 8) n rest (rw whole h)

-- the number that is read fits its width, and gives the bits back
pub from_bits-lt : (w : ℕ) (bs : List Bool) → w ≤ length bs → from_bits w bs < 2 ^ w
unfolding from_bits
from_bits-lt w bs h = rw whole at (number_lt (w / 8) (w % 8) bs (rw whole h))

pub to_bits-from_bits : (w : ℕ) (bs : List Bool) → w ≤ length bs → to_bits w (from_bits w bs) ≡ take w bs
unfolding to_bits from_bits
to_bits-from_bits w bs h = octets-number (w / 8) (w % 8) bs (rw whole h) ∙ ap (λ (n : ℕ). take n bs) (whole w)
