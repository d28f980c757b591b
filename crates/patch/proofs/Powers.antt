-- Places up: many of them, those of zero bytes, and the product with a power of x.
use mathlib.Core.Path.{◌≡◌, refl, sym, ap, ap₂, ◌∙◌}
use mathlib.Core.List.{List, ◌∷◌}
use Prim.Native.Nat.{ℕ, zero, suc, ◌+◌, ◌*◌, ◌-◌, ◌/◌, ◌%◌, ◌^◌, ◌≤◌, ◌<◌}
use native.Mathlib.Nat.{pow-suc}
use native.Mathlib.Omega.{arith}
use lib.Bits.{bit_xor, xor_zero_l, xor_zero_r, xor_shifted}
use lib.Dec.{T, eqb}
use lib.ListN.{get_or, replicate}
use lib.Pow.{pow_mono}
use Rattle.checksum.specs.Crc.{shift, shifts, crc_byte, crc_over}
use Rattle.checksum.specs.Crc16.{ccitt}
use Rattle.checksum.proofs.Below.{all, agree}
use Rattle.checksum.proofs.Linear.{shifts-xor}
use Rattle.checksum.proofs.Tables.{shift-low, shifts-low}
use Rattle.checksum.proofs.Xor.{bit-cases, odd-lt}
use Rattle.patch.specs.inside.Powers.{IsPowers, product_of}

-- ── many places ──

pub shifts-add : (m n c : ℕ) → shifts ccitt (m + n) c ≡ shifts ccitt n (shifts ccitt m c)
unfolding shifts
shifts-add zero n c = let e : 0 + n ≡ n = omega arith in ap (λ (z : ℕ). shifts ccitt z c) e
shifts-add (suc m) n c =
    let e : suc m + n ≡ suc (m + n) = omega arith in
    ap (λ (z : ℕ). shifts ccitt z c) e ∙ shifts-add m n (shift ccitt c)

shift-last : (n c : ℕ) → shift ccitt (shifts ccitt n c) ≡ shifts ccitt n (shift ccitt c)
unfolding shifts
shift-last zero c = refl
shift-last (suc n) c = shift-last n (shift ccitt c)

-- 0 stays 0
shifts-zero : (n : ℕ) → shifts ccitt n 0 ≡ 0
unfolding shift shifts
shifts-zero zero = refl
shifts-zero (suc n) = shifts-zero n

-- ── zero bytes ──

byte-zero : (c : ℕ) → crc_byte ccitt c 0 ≡ shifts ccitt 8 c
unfolding crc_byte
byte-zero c = ap (shifts ccitt 8) (xor_zero_r c)

zeros : (n c : ℕ) → crc_over ccitt c (replicate n 0) ≡ shifts ccitt (8 * n) c
unfolding crc_over shifts
zeros zero c = refl
zeros (suc n) c =
    let e : 8 + 8 * n ≡ 8 * suc n = omega arith in
    zeros n (crc_byte ccitt c 0) ∙ ap (shifts ccitt (8 * n)) (byte-zero c) ∙ sym (shifts-add 8 (8 * n) c) ∙ ap (λ (z : ℕ). shifts ccitt z c) e

-- a byte with n of them after it: it comes in eight places up, and goes up eight places with each byte
pub alone : (d n : ℕ) → d < 256 → crc_over ccitt 0 (d ∷ replicate n 0) ≡ shifts ccitt (16 + 8 * n) d
unfolding crc_over crc_byte
alone d n h =
    let e : 8 + (8 + 8 * n) ≡ 16 + 8 * n = omega arith in
    zeros n (crc_byte ccitt 0 d)
    ∙ ap (λ (z : ℕ). shifts ccitt (8 * n) (shifts ccitt 8 z)) (xor_zero_l (d * 256) ∙ sym (shifts-low ccitt 8 8 d refl h))
    ∙ sym (shifts-add 8 (8 * n) (shifts ccitt 8 d)) ∙ sym (shifts-add 8 (8 + 8 * n) d) ∙ ap (λ (z : ℕ). shifts ccitt z d) e

-- ── the product with a power ──

-- one bit more
next_bit : (m v x w : ℕ) → v < 32768 → x < 2 → w ≡ shifts ccitt m 1 → bit_xor (shift ccitt (shifts ccitt m v)) (x * w) ≡ shifts ccitt m (v * 2 + x)
next_bit m v x w h l e =
    ap₂ bit_xor (shift-last m v ∙ ap (shifts ccitt m) (shift-low ccitt 15 v refl h)) (one x l)
    ∙ sym (shifts-xor ccitt m (v * 2) x) ∙ ap (shifts ccitt m) (xor_shifted v 1 x l)
  where
    one : (x : ℕ) → x < 2 → x * w ≡ shifts ccitt m x
    one = bit-cases (λ (x : ℕ). x * w ≡ shifts ccitt m x) (let z : 0 * w ≡ 0 = omega arith in z ∙ sym (shifts-zero m)) (let z : 1 * w ≡ w = omega arith in z ∙ e)

-- the product of v and 1 moved up m places is v moved up m places
pub product-moves : (m k v w : ℕ) → k ≤ 16 → v < 2 ^ k → w ≡ shifts ccitt m 1 → product_of k v w ≡ shifts ccitt m v
unfolding product_of
product-moves m zero v w l h e = let z : 0 ≡ v = omega arith in sym (shifts-zero m) ∙ ap (shifts ccitt m) z
product-moves m (suc k) v w l h e =
    let d : v < 2 ^ k * 2 = rw pow-suc at h in
    let b : 2 ^ k ≤ 2 ^ 15 = pow_mono {i = k} {j = 15} (omega arith) in
    let back : v / 2 * 2 + v % 2 ≡ v = omega arith in
    ap (λ (z : ℕ). bit_xor (shift ccitt z) (v % 2 * w)) (product-moves m k (v / 2) w (omega arith) (omega arith) e)
    ∙ next_bit m (v / 2) (v % 2) w (omega arith) (odd-lt v) e ∙ ap (shifts ccitt m) back

-- ── the rule of a table, by a test of each entry against the one before ──

-- f at a number that is worked out first: antt would else work it out again wherever f names it
abbrev pub strictly : (ℕ → ℕ) → ℕ → ℕ
strictly f zero = f zero
strictly f (suc n) = f (suc n)

strictly-is : (f : ℕ → ℕ) (n : ℕ) → strictly f n ≡ f n
strictly-is f zero = refl
strictly-is f (suc n) = refl

-- places up, one after the other
abbrev pub moved : ℕ → ℕ → ℕ
moved zero c = c
moved (suc n) c = strictly (moved n) (shift ccitt c)

moved-is : (n c : ℕ) → moved n c ≡ shifts ccitt n c
unfolding shifts
moved-is zero c = refl
moved-is (suc n) c = strictly-is (moved n) (shift ccitt c) ∙ moved-is n (shift ccitt c)

module _ (t : List ℕ) (from step count : ℕ) (first : get_or t 0 0 ≡ moved from 1)
    (on : (i : ℕ) → i < count - 1 → get_or t (suc i) 0 ≡ moved step (get_or t i 0)) where
  entries : (i : ℕ) → i < count → get_or t i 0 ≡ shifts ccitt (from + step * i) 1
  entries zero h = let e : from ≡ from + step * 0 = omega arith in first ∙ moved-is from 1 ∙ ap (λ (n : ℕ). shifts ccitt n 1) e
  entries (suc i) h =
      let e : from + step * i + step ≡ from + step * suc i = omega arith in
      on i (omega arith) ∙ moved-is step (get_or t i 0) ∙ ap (shifts ccitt step) (entries i (omega arith))
      ∙ sym (shifts-add (from + step * i) step 1) ∙ ap (λ (n : ℕ). shifts ccitt n 1) e

pub is-powers : (from step count : ℕ) (t : List ℕ) → get_or t 0 0 ≡ moved from 1
    → T (all (λ i. eqb (get_or t (suc i) 0) (moved step (get_or t i 0))) (count - 1)) → IsPowers from step count t
is-powers from step count t f h =
    record { entry = entries t from step count f (agree (λ i. get_or t (suc i) 0) (λ i. moved step (get_or t i 0)) (count - 1) h) }
