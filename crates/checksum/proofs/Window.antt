-- At most 16 bits fed one by one are 16 places of the register at once; and a place up makes no two registers one.
use mathlib.Core.Path.{◌≡◌, refl, sym, ap, ap₂, ◌∙◌}
use mathlib.Core.Bool.{Bool, true, false}
use mathlib.Core.List.{List, [], ◌∷◌, ◌++◌}
use Prim.Native.Nat.{ℕ, zero, suc, ◌+◌, ◌*◌, ◌/◌, ◌%◌, ◌^◌, ◌≤◌, ◌<◌}
use native.Mathlib.Nat.{pow-suc}
use native.Mathlib.Omega.{arith}
use lib.Bits.{bit_xor, xor_lt, xor_mod, xor_shifted, xor_zero_r, xor_self}
use lib.Dec.{lit≤}
use lib.ListN.{length}
use lib.Pow.{pow_pos}
use Rattle.bits.proofs.Digits.{digits-mod-pow}
use Rattle.bits.specs.Order.{one, digits, unpack}
use Rattle.checksum.specs.Crc.{shift, shifts, crc_byte, crc_over}
use Rattle.checksum.specs.Crc16.{ccitt}
use Rattle.checksum.proofs.Below.{agree}
use Rattle.checksum.proofs.Linear.{shift-xor}
use Rattle.checksum.proofs.Tables.{shift-low}
use Rattle.checksum.proofs.Xor.{bit-cases, xor_assoc, xor-none, xor-cancel-right}

-- a bit comes in at the top
unfoldable pub feed : ℕ → Bool → ℕ
feed c x = shift ccitt (bit_xor c (one x * 32768))

unfoldable pub feeds : ℕ → List Bool → ℕ
feeds c [] = c
feeds c (x ∷ w) = feeds (feed c x) w

-- bits as a number of k places, the first one highest
unfoldable pub places : ℕ → List Bool → ℕ
places zero w = 0
places (suc k) [] = 0
places (suc k) (x ∷ w) = one x * 2 ^ k + places k w

places-nil : (k : ℕ) → places k [] ≡ 0
unfolding places
places-nil zero = refl
places-nil (suc k) = refl

one-lt : (x : Bool) → one x < 2
one-lt true = omega arith
one-lt false = omega arith

pub places-lt : (k : ℕ) (w : List Bool) → places k w < 2 ^ k
unfolding places
places-lt zero w = omega arith
places-lt (suc k) [] = pow_pos (suc k)
places-lt (suc k) (true ∷ w) = omega (arith, places-lt k w, pow-suc 2 k)
places-lt (suc k) (false ∷ w) = omega (arith, places-lt k w, pow-suc 2 k)

-- one place more, where there is room
places-up : (k : ℕ) (w : List Bool) → length w ≤ k → places (suc k) w ≡ places k w * 2
unfolding places
places-up k [] h = ap (λ (z : ℕ). z * 2) (sym (places-nil k))
places-up zero (x ∷ w) h = absurd (omega arith)
places-up (suc k) (true ∷ w) h = omega (arith, pow-suc 2 k, places-up k w (omega arith))
places-up (suc k) (false ∷ w) h = omega (arith, places-up k w (omega arith))

-- the bits are known from the number
pub places_same : (k : ℕ) (w v : List Bool) → length w ≡ length v → length w ≤ k → places k w ≡ places k v → w ≡ v
unfolding places
places_same k [] [] n l e = refl
places_same k [] (y ∷ v) n l e = absurd (omega arith)
places_same k (x ∷ w) [] n l e = absurd (omega arith)
places_same zero (x ∷ w) (y ∷ v) n l e = absurd (omega arith)
places_same (suc k) (true ∷ w) (true ∷ v) n l e = ap (λ (u : List Bool). true ∷ u) (places_same k w v (omega arith) (omega arith) (omega arith))
places_same (suc k) (false ∷ w) (false ∷ v) n l e = ap (λ (u : List Bool). false ∷ u) (places_same k w v (omega arith) (omega arith) (omega arith))
places_same (suc k) (true ∷ w) (false ∷ v) n l e = absurd (omega (arith, places-lt k v))
places_same (suc k) (false ∷ w) (true ∷ v) n l e = absurd (omega (arith, places-lt k w))

-- ── a place up ──

pub shift_is : (c : ℕ) → shift ccitt c ≡ bit_xor (c * 2 % 65536) (c / 32768 % 2 * ccitt.polynomial)
unfolding shift
shift_is c = refl

pub shift-lt : (c : ℕ) → shift ccitt c < 65536
shift-lt c = rw (shift_is c) (xor_lt 16 (c * 2 % 65536) (c / 32768 % 2 * ccitt.polynomial) (omega arith) (omega arith))

-- only 0 goes to 0: the polynomial is odd, and what moved up is even
shift_none : (c : ℕ) → c < 65536 → shift ccitt c ≡ 0 → c ≡ 0
shift_none c h e =
    let d : c / 32768 < 2 = omega arith in
    let m : c / 32768 % 2 ≡ c / 32768 = omega arith in
    bit-cases (λ (x : ℕ). c / 32768 ≡ x → c * 2 % 65536 ≡ x * ccitt.polynomial → c ≡ 0)
    (λ s t. let l : c < 32768 = omega arith in let k : c * 2 % 65536 ≡ c * 2 = omega arith in omega arith)
    (λ s t. let l : 32768 ≤ c = omega arith in let k : c * 2 % 65536 + 65536 ≡ c * 2 = omega arith in absurd (omega arith))
    (c / 32768) d refl (xor-none (c * 2 % 65536) (c / 32768 % 2 * ccitt.polynomial) (sym (shift_is c) ∙ e) ∙ ap (λ (x : ℕ). x * ccitt.polynomial) m)

shift_same : (a b : ℕ) → a < 65536 → b < 65536 → shift ccitt a ≡ shift ccitt b → a ≡ b
shift_same a b ha hb e =
    xor-none a b
    (shift_none (bit_xor a b) (xor_lt 16 a b ha hb) (shift-xor ccitt a b ∙ ap (λ (z : ℕ). bit_xor z (shift ccitt b)) e ∙ xor_self (shift ccitt b)))

pub shifts-same : (n a b : ℕ) → a < 65536 → b < 65536 → shifts ccitt n a ≡ shifts ccitt n b → a ≡ b
unfolding shifts
shifts-same zero a b ha hb e = e
shifts-same (suc n) a b ha hb e = shift_same a b ha hb (shifts-same n (shift ccitt a) (shift ccitt b) (shift-lt a) (shift-lt b) e)

-- what is above 16 bits does not count
shift-low-bits : (c : ℕ) → shift ccitt (c % 65536) ≡ shift ccitt c
shift-low-bits c =
    let a : c % 65536 * 2 % 65536 ≡ c * 2 % 65536 = omega arith in
    let b : c / 32768 ≡ c / 65536 * 2 + c % 65536 / 32768 = omega arith in
    let d : c % 65536 / 32768 % 2 ≡ c / 32768 % 2 = rw b (omega arith) in
    shift_is (c % 65536) ∙ ap₂ (λ (x y : ℕ). bit_xor x (y * ccitt.polynomial)) a d ∙ sym (shift_is c)

-- ── bits fed one by one ──

pub feeds-append : (c : ℕ) (w v : List Bool) → feeds c (w ++ v) ≡ feeds (feeds c w) v
unfolding feeds
feeds-append c [] v = refl
feeds-append c (x ∷ w) v = feeds-append (feed c x) w v

feed-lt : (c : ℕ) (x : Bool) → feed c x < 65536
unfolding feed
feed-lt c x = shift-lt (bit_xor c (one x * 32768))

pub feeds-lt : (c : ℕ) (w : List Bool) → c < 65536 → feeds c w < 65536
unfolding feeds
feeds-lt c [] h = h
feeds-lt c (x ∷ w) h = feeds-lt (feed c x) w (feed-lt c x)

pub feeds-same : (c d : ℕ) (w : List Bool) → c < 65536 → d < 65536 → feeds c w ≡ feeds d w → c ≡ d
unfolding feeds feed
feeds-same c d [] hc hd e = e
feeds-same c d (x ∷ w) hc hd e =
    let b : one x * 32768 < 65536 = omega (arith, one-lt x) in
    xor-cancel-right (one x * 32768) c d
    (shift_same (bit_xor c (one x * 32768)) (bit_xor d (one x * 32768)) (xor_lt 16 c (one x * 32768) hc b) (xor_lt 16 d (one x * 32768) hd b)
    (feeds-same (feed c x) (feed d x) w (feed-lt c x) (feed-lt d x) e))

-- at most 16 bits, one by one, are as many places up of the register with all of them in it
pub window : (c : ℕ) (w : List Bool) → length w ≤ 16 → feeds c w ≡ shifts ccitt (length w) (bit_xor c (places 16 w))
unfolding feeds feed shifts places
window c [] l = sym (xor_zero_r c)
window c (x ∷ w) l =
    let b = places-lt 15 w in
    let u : places 16 w ≡ shift ccitt (places 15 w) = places-up 15 w (omega arith) ∙ sym (shift-low ccitt 15 (places 15 w) refl b) in
    window (feed c x) w (omega arith)
    ∙ ap (shifts ccitt (length w))
    (ap (bit_xor (feed c x)) u ∙ sym (shift-xor ccitt (bit_xor c (one x * 32768)) (places 15 w))
    ∙ ap (shift ccitt) (xor_assoc c (one x * 32768) (places 15 w) ∙ ap (bit_xor c) (xor_shifted (one x) 15 (places 15 w) b)))

-- ── a payload is its bits ──

byte-places : (b : ℕ) → b < 256 → places 16 (digits 8 b) ≡ b * 256
unfolding places digits
byte-places = agree (λ b. places 16 (digits 8 b)) (λ b. b * 256) 256 tt

-- a number counts as the byte of its lowest eight bits
byte_low : (c b : ℕ) → crc_byte ccitt c (b % 256) ≡ crc_byte ccitt c b
unfolding crc_byte shifts
byte_low c b =
    let e : b % 256 * 256 % 65536 ≡ b * 256 % 65536 = omega arith in
    ap (shifts ccitt 7)
    (sym (shift-low-bits (bit_xor c (b % 256 * 256)))
    ∙ ap (shift ccitt) (xor_mod c (b % 256 * 256) 16 ∙ ap (bit_xor (c % 65536)) e ∙ sym (xor_mod c (b * 256) 16))
    ∙ shift-low-bits (bit_xor c (b * 256)))

eight : (c b : ℕ) → feeds c (digits 8 b) ≡ shifts ccitt 8 (bit_xor c (places 16 (digits 8 b)))
unfolding digits
eight c b = window c (digits 8 b) (lit≤ tt)

byte-feeds : (c b : ℕ) → crc_byte ccitt c b ≡ feeds c (digits 8 b)
unfolding crc_byte
byte-feeds c b =
    sym (byte_low c b)
    ∙ ap (λ (z : ℕ). shifts ccitt 8 (bit_xor c z)) (sym (byte-places (b % 256) (omega arith)))
    ∙ sym (eight c (b % 256))
    ∙ ap (feeds c) (digits-mod-pow 8 b)

pub over-feeds : (c : ℕ) (p : List ℕ) → crc_over ccitt c p ≡ feeds c (unpack p)
unfolding crc_over unpack feeds
over-feeds c [] = refl
over-feeds c (b ∷ p) =
    over-feeds (crc_byte ccitt c b) p ∙ ap (λ (z : ℕ). feeds z (unpack p)) (byte-feeds c b) ∙ sym (feeds-append c (digits 8 b) (unpack p))
