-- One place up is linear under exclusive or, and so is every check built from it.
use mathlib.Core.Path.{◌≡◌, refl, sym, ap, ap₂, ◌∙◌}
use mathlib.Core.List.{List, [], ◌∷◌, ◌++◌}
use Prim.Native.Nat.{ℕ, zero, suc, ◌+◌, ◌*◌, ◌-◌, ◌/◌, ◌%◌, ◌^◌, ◌<◌}
use native.Mathlib.Nat.{zero-mul}
use native.Mathlib.Numerals.{add-one}
use native.Mathlib.Omega.{arith}
use lib.Bits.{bit_xor, xor_shr, xor_mod, xor_self, xor_zero_l, xor_zero_r}
use lib.ListN.{length, drop, get_or}
use lib.Seq.{drop-cons, drop-length}
use Rattle.checksum.specs.Crc.{Crc, shift, shifts, crc_byte, crc_over}
use Rattle.checksum.specs.Crc16.{ccitt, checksum}
use Rattle.checksum.specs.Laws.{xors, LinearLaws}
use Rattle.bits.specs.Little.{le_bytes}
use Rattle.checksum.proofs.Xor.{bit-cases, odd-lt, xor-swap, xor-times}

-- a bit times a number
times : (g x y : ℕ) → x < 2 → y < 2 → bit_xor x y * g ≡ bit_xor (x * g) (y * g)
times g x y hx hy =
    bit-cases (λ (x : ℕ). bit_xor x y * g ≡ bit_xor (x * g) (y * g))
    (ap (λ (z : ℕ). z * g) (xor_zero_l y) ∙ sym (xor_zero_l (y * g)) ∙ ap (λ (z : ℕ). bit_xor z (y * g)) (sym (zero-mul g)))
    (bit-cases (λ (y : ℕ). bit_xor 1 y * g ≡ bit_xor (1 * g) (y * g))
    (sym (xor_zero_r (1 * g)) ∙ ap (bit_xor (1 * g)) (sym (zero-mul g)))
    (zero-mul g ∙ sym (xor_self (1 * g))) y hy) x hx

module _ (k : Crc) where
  pub shift-xor : (a b : ℕ) → shift k (bit_xor a b) ≡ bit_xor (shift k a) (shift k b)
  unfolding shift
  shift-xor a b =
      let w = k.width in
      let x = a / 2 ^ (w - 1) % 2 in
      let y = b / 2 ^ (w - 1) % 2 in
      let top : bit_xor a b / 2 ^ (w - 1) % 2 ≡ bit_xor x y = ap (λ (z : ℕ). z % 2) (xor_shr a b (w - 1)) ∙ xor_mod (a / 2 ^ (w - 1)) (b / 2 ^ (w - 1)) 1 in
      ap₂ bit_xor
      (ap (λ (z : ℕ). z % 2 ^ w) (xor-times 1 a b) ∙ xor_mod (a * 2) (b * 2) w)
      (ap (λ (z : ℕ). z * k.polynomial) top ∙ times k.polynomial x y (odd-lt (a / 2 ^ (w - 1))) (odd-lt (b / 2 ^ (w - 1))))
      ∙ xor-swap (a * 2 % 2 ^ w) (b * 2 % 2 ^ w) (x * k.polynomial) (y * k.polynomial)

  pub shifts-xor : (n a b : ℕ) → shifts k n (bit_xor a b) ≡ bit_xor (shifts k n a) (shifts k n b)
  unfolding shifts
  shifts-xor zero a b = refl
  shifts-xor (suc n) a b = ap (shifts k n) (shift-xor a b) ∙ shifts-xor n (shift k a) (shift k b)

  byte-xor : (c d x y : ℕ) → crc_byte k (bit_xor c d) (bit_xor x y) ≡ bit_xor (crc_byte k c x) (crc_byte k d y)
  unfolding crc_byte
  byte-xor c d x y =
      let u = 2 ^ (k.width - 8) in
      ap (λ (z : ℕ). shifts k 8 (bit_xor (bit_xor c d) z)) (xor-times (k.width - 8) x y) ∙ ap (shifts k 8) (xor-swap c d (x * u) (y * u))
      ∙ shifts-xor 8 (bit_xor c (x * u)) (bit_xor d (y * u))

  pub over-xor : (c d : ℕ) (p q : List ℕ) → length p ≡ length q → crc_over k (bit_xor c d) (xors p q) ≡ bit_xor (crc_over k c p) (crc_over k d q)
  unfolding crc_over xors
  over-xor c d [] [] e = refl
  over-xor c d [] (y ∷ q) e = absurd (omega arith)
  over-xor c d (x ∷ p) [] e = absurd (omega arith)
  over-xor c d (x ∷ p) (y ∷ q) e =
      ap (λ (z : ℕ). crc_over k z (xors p q)) (byte-xor c d x y) ∙ over-xor (crc_byte k c x) (crc_byte k d y) p q (omega arith)

  pub over-append : (c : ℕ) (p q : List ℕ) → crc_over k c (p ++ q) ≡ crc_over k (crc_over k c p) q
  unfolding crc_over
  over-append c [] q = refl
  over-append c (x ∷ p) q = over-append (crc_byte k c x) p q

  -- a loop over the bytes p, at place i with the register r: one byte more, and none left
  pub over-turn : (r q i : ℕ) (p : List ℕ) → i < length p → q ≡ crc_byte k r (get_or p i 0) → crc_over k q (drop (i + 1) p) ≡ crc_over k r (drop i p)
  unfolding crc_over
  over-turn r q i p h e = rw (add-one, drop-cons p i 0, e)

  pub over_done : (r i : ℕ) (p : List ℕ) → i ≡ length p → crc_over k r (drop i p) ≡ r
  unfolding crc_over
  over_done r i p e = rw (e, drop-length)

-- ── the transfer checksum ──

difference : (signature : ℕ) (p q : List ℕ) → length p ≡ length q → bit_xor (checksum signature p) (checksum signature q) ≡ crc_over ccitt 0 (xors p q)
unfolding checksum
difference signature p q e =
    let r = crc_over ccitt 0xFFFF (le_bytes 8 signature) in
    ap₂ bit_xor (over-append ccitt 0xFFFF (le_bytes 8 signature) p) (over-append ccitt 0xFFFF (le_bytes 8 signature) q)
    ∙ sym (over-xor ccitt r r p q e) ∙ ap (λ (z : ℕ). crc_over ccitt z (xors p q)) (xor_self r)

pub linear-laws : LinearLaws
linear-laws = record {
  linear = over-xor;
  difference = difference;
  depends = λ s t p q u v e f d. difference s p q e ∙ ap (crc_over ccitt 0) d ∙ sym (difference t u v f);
}
