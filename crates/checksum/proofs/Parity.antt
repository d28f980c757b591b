-- The polynomial has an even number of terms, so a place up turns nothing of the parity, and a bit fed turns it exactly if it is a one.
use mathlib.Core.Path.{◌≡◌, refl, ap, ◌∙◌}
use mathlib.Core.Bool.{Bool, true, false}
use mathlib.Core.List.{List, [], ◌∷◌, ◌++◌}
use Prim.Native.Nat.{ℕ, zero, suc, ◌+◌, ◌*◌, ◌/◌, ◌%◌, ◌<◌}
use native.Mathlib.Nat.{zero-add}
use native.Mathlib.Omega.{arith}
use lib.Bits.{bit_xor, differ}
use Rattle.bits.proofs.Digits.{one-odd, digits-add, digits-mod-pow}
use Rattle.bits.specs.Order.{one, odd, digits}
use Rattle.checksum.specs.Crc.{shift}
use Rattle.checksum.specs.Crc16.{ccitt}
use Rattle.checksum.proofs.Window.{shift_is, feed, feeds}
use Rattle.checksum.proofs.Xor.{bit-cases, odd-lt, half, low}

-- the number of ones
unfoldable pub ones : List Bool → ℕ
ones [] = 0
ones (b ∷ bs) = one b + ones bs

ones-append : (w v : List Bool) → ones (w ++ v) ≡ ones w + ones v
unfolding ones
ones-append [] v = omega arith
ones-append (b ∷ w) v = omega (arith, ones-append w v)

-- of a number's k digits: the last one apart
ones-digits : (k n : ℕ) → ones (digits (suc k) n) ≡ ones (digits k (n / 2)) + n % 2
unfolding digits ones
ones-digits k n = ones-append (digits k (n / 2)) (odd n ∷ []) ∙ omega (arith, one-odd n)

differ-sum : (x y : ℕ) → x < 2 → y < 2 → differ x y % 2 ≡ (x + y) % 2
differ-sum x y hx hy = bit-cases (λ (x : ℕ). differ x y % 2 ≡ (x + y) % 2)
    (bit-cases (λ (y : ℕ). differ 0 y % 2 ≡ (0 + y) % 2) refl refl y hy)
    (bit-cases (λ (y : ℕ). differ 1 y % 2 ≡ (1 + y) % 2) refl refl y hy) x hx

sum-parity : (s d a b x y : ℕ) → s % 2 ≡ (a + b) % 2 → d % 2 ≡ (x + y) % 2 → (s + d) % 2 ≡ (a + x + (b + y)) % 2
sum-parity s d a b x y e f = omega arith

ones-xor : (k a b : ℕ) → ones (digits k (bit_xor a b)) % 2 ≡ (ones (digits k a) + ones (digits k b)) % 2
unfolding digits ones
ones-xor zero a b = refl
ones-xor (suc k) a b =
    rw (ones-digits k (bit_xor a b), ones-digits k a, ones-digits k b)
    (sum-parity (ones (digits k (bit_xor a b / 2))) (bit_xor a b % 2) (ones (digits k (a / 2))) (ones (digits k (b / 2))) (a % 2) (b % 2)
    (ap (λ (n : ℕ). ones (digits k n) % 2) (half a b) ∙ ones-xor k (a / 2) (b / 2))
    (ap (λ (n : ℕ). n % 2) (low a b) ∙ differ-sum (a % 2) (b % 2) (odd-lt a) (odd-lt b)))

top-ones : (t : ℕ) → t < 2 → ones (digits 16 (t * ccitt.polynomial)) ≡ 3 * t
unfolding digits ones
top-ones t h = bit-cases (λ (t : ℕ). ones (digits 16 (t * ccitt.polynomial)) ≡ 3 * t) refl refl t h

fed-ones : (x : Bool) → ones (digits 16 (one x * 32768)) ≡ one x
unfolding digits ones
fed-ones true = refl
fed-ones false = refl

-- one place up: the highest digit leaves, and a zero comes in
up-ones : (c : ℕ) → ones (digits 16 (c * 2 % 65536)) ≡ ones (digits 15 c)
up-ones c =
    let e : c * 2 / 2 ≡ c = omega arith in
    ap ones (digits-mod-pow 16 (c * 2)) ∙ ones-digits 15 (c * 2) ∙ rw e (omega arith)

split-ones : (c : ℕ) → ones (digits 16 c) ≡ c / 32768 % 2 + ones (digits 15 c)
unfolding digits ones
split-ones c =
    ap ones (digits-add 1 15 c) ∙ ones-append (digits 1 (c / 32768)) (digits 15 c)
    ∙ ap (λ (n : ℕ). n + ones (digits 15 c)) (ones-digits 0 (c / 32768) ∙ zero-add (c / 32768 % 2))

shift-parity : (c : ℕ) → ones (digits 16 (shift ccitt c)) % 2 ≡ ones (digits 16 c) % 2
shift-parity c =
    let t = c / 32768 % 2 in
    rw (shift_is c) (omega (arith, ones-xor 16 (c * 2 % 65536) (t * ccitt.polynomial), up-ones c, top-ones t (odd-lt (c / 32768)), split-ones c))

pub feeds-parity : (c : ℕ) (w : List Bool) → ones (digits 16 (feeds c w)) % 2 ≡ (ones (digits 16 c) + ones w) % 2
unfolding feeds feed ones
feeds-parity c [] = omega arith
feeds-parity c (x ∷ w) =
    omega (arith, feeds-parity (feed c x) w, shift-parity (bit_xor c (one x * 32768)), ones-xor 16 c (one x * 32768), fed-ones x)
