-- The exclusive or of numbers is a group in which each number is its own inverse.
use mathlib.Core.Path.{◌≡◌, refl, sym, ap, ap₂, ◌∙◌}
use Prim.Native.Nat.{ℕ, zero, suc, ◌+◌, ◌*◌, ◌/◌, ◌%◌, ◌^◌, ◌<◌}
use native.Mathlib.Nat.{mod-lt, zero-lt-suc, add-zero}
use lib.Pow.{pow_pos}
use native.Mathlib.Omega.{arith}
use lib.Arith.{bin_ind}
use lib.Bits.{bit_xor, differ, xor_step, xor_comm, xor_self, xor_zero_r, xor_shr, xor_mod, xor_block}

-- what holds of 0 and 1 holds of a digit
pub bit-cases {ℓ} : (P : ℕ → Type ℓ) → P 0 → P 1 → (x : ℕ) → x < 2 → P x
bit-cases P p q zero h = p
bit-cases P p q (suc zero) h = q
bit-cases P p q (suc (suc x)) h = absurd (omega arith)

pub odd-lt : (n : ℕ) → n % 2 < 2
odd-lt n = mod-lt n (zero-lt-suc 1)

digit : (x y : ℕ) → x < 2 → y < 2 → bit_xor x y ≡ differ x y
digit x y hx hy = bit-cases (λ (x : ℕ). bit_xor x y ≡ differ x y) refl (bit-cases (λ (y : ℕ). bit_xor 1 y ≡ differ 1 y) refl refl y hy) x hx

digit_assoc : (x y z : ℕ) → x < 2 → y < 2 → z < 2 → differ (differ x y) z ≡ differ x (differ y z)
digit_assoc x y z hx hy hz =
    bit-cases (λ (x : ℕ). differ (differ x y) z ≡ differ x (differ y z)) refl
    (bit-cases (λ (y : ℕ). differ (differ 1 y) z ≡ differ 1 (differ y z)) refl
    (bit-cases (λ (z : ℕ). differ (differ 1 1) z ≡ differ 1 (differ 1 z)) refl refl z hz) y hy) x hx

pub half : (a b : ℕ) → bit_xor a b / 2 ≡ bit_xor (a / 2) (b / 2)
half a b = xor_shr a b 1

pub low : (a b : ℕ) → bit_xor a b % 2 ≡ differ (a % 2) (b % 2)
low a b = xor_mod a b 1 ∙ digit (a % 2) (b % 2) (odd-lt a) (odd-lt b)

pub xor_assoc : (a b c : ℕ) → bit_xor (bit_xor a b) c ≡ bit_xor a (bit_xor b c)
xor_assoc a =
    bin_ind (λ (n : ℕ). (b c : ℕ) → bit_xor (bit_xor n b) c ≡ bit_xor n (bit_xor b c)) (λ b c. refl)
    (λ n ih b c. xor_step (bit_xor n b) c
    ∙ ap₂ (λ (x y : ℕ). bit_xor x (c / 2) * 2 + differ y (c % 2)) (half n b) (low n b)
    ∙ ap₂ (λ (x y : ℕ). x * 2 + y) (ih (b / 2) (c / 2)) (digit_assoc (n % 2) (b % 2) (c % 2) (odd-lt n) (odd-lt b) (odd-lt c))
    ∙ sym (ap₂ (λ (x y : ℕ). bit_xor (n / 2) x * 2 + differ (n % 2) y) (half b c) (low b c))
    ∙ sym (xor_step n (bit_xor b c))) a

-- (a + b) + (c + d) is (a + c) + (b + d)
pub xor-swap : (a b c d : ℕ) → bit_xor (bit_xor a b) (bit_xor c d) ≡ bit_xor (bit_xor a c) (bit_xor b d)
xor-swap a b c d =
    xor_assoc a b (bit_xor c d)
    ∙ ap (bit_xor a) (sym (xor_assoc b c d) ∙ ap (λ (x : ℕ). bit_xor x d) (xor_comm b c) ∙ xor_assoc c b d)
    ∙ sym (xor_assoc a c (bit_xor b d))

-- twice the same is nothing
pub xor-back : (a b : ℕ) → bit_xor (bit_xor a b) b ≡ a
xor-back a b = xor_assoc a b b ∙ ap (bit_xor a) (xor_self b) ∙ xor_zero_r a

pub xor-none : (a b : ℕ) → bit_xor a b ≡ 0 → a ≡ b
xor-none a b e = sym (xor-back a b) ∙ ap (λ (x : ℕ). bit_xor x b) e

pub xor-cancel-right : (c a b : ℕ) → bit_xor a c ≡ bit_xor b c → a ≡ b
xor-cancel-right c a b e = sym (xor-back a c) ∙ ap (λ (x : ℕ). bit_xor x c) e ∙ xor-back b c

-- times a power of two
pub xor-times : (k a b : ℕ) → bit_xor a b * 2 ^ k ≡ bit_xor (a * 2 ^ k) (b * 2 ^ k)
xor-times k a b =
    sym (add-zero (bit_xor a b * 2 ^ k)) ∙ sym (xor_block k a b 0 0 (pow_pos k) (pow_pos k)) ∙ ap₂ bit_xor (add-zero (a * 2 ^ k)) (add-zero (b * 2 ^ k))
