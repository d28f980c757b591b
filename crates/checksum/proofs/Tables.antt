-- Part of a byte by a table: one law over the register's width and the part's, and the rule of a table by a test of its entries.
use mathlib.Core.Path.{◌≡◌, refl, sym, ap, ap₂, ◌∙◌}
use mathlib.Core.List.{List}
use Prim.Native.Nat.{ℕ, zero, suc, ◌+◌, ◌*◌, ◌-◌, ◌/◌, ◌%◌, ◌^◌, ◌≤◌, ◌<◌}
use native.Mathlib.Nat.{pow-suc, mul_assoc, mul-one, zero-mul, mod-lt, mul_comm, mod-eq_of_lt, div-eq_of_lt}
use native.Mathlib.Omega.{arith}
use lib.Bits.{bit_xor, xor_shifted, xor_comm, xor_zero_r}
use lib.Dec.{T, eqb}
use lib.ListN.{get_or}
use lib.Pow.{pow_pos, pow_mono, split}
use Rattle.checksum.specs.Crc.{Crc, shift, shifts, crc_byte}
use Rattle.checksum.specs.Crc16.{ccitt}
use Rattle.checksum.specs.inside.Table.{IsTable}
use Rattle.checksum.proofs.Below.{all, agree}
use Rattle.checksum.proofs.Xor.{xor_assoc, xor-times}
use Rattle.checksum.proofs.Linear.{shifts-xor}

module _ (k : Crc) where
  -- one place up, where nothing leaves at the top
  pub shift-low : (n c : ℕ) → suc n ≡ k.width → c < 2 ^ n → shift k c ≡ c * 2
  unfolding shift
  shift-low n c e h =
      let w : k.width - 1 ≡ n = omega arith in
      let l : c * 2 < 2 ^ suc n = rw pow-suc (omega arith) in
      let m : c * 2 % 2 ^ k.width ≡ c * 2 = ap (λ (j : ℕ). c * 2 % 2 ^ j) (sym e) ∙ mod-eq_of_lt l in
      let d : c / 2 ^ n ≡ 0 = div-eq_of_lt h in
      let z : c / 2 ^ (k.width - 1) % 2 * k.polynomial ≡ 0 = ap (λ (j : ℕ). c / 2 ^ j % 2 * k.polynomial) w ∙ ap (λ (x : ℕ). x % 2 * k.polynomial) d ∙ zero-mul k.polynomial in
      ap₂ bit_xor m z ∙ xor_zero_r (c * 2)

  -- n places up, as long as nothing leaves at the top
  pub shifts-low : (n j c : ℕ) → n + j ≡ k.width → c < 2 ^ j → shifts k n c ≡ c * 2 ^ n
  unfolding shifts
  shifts-low zero j c e h = sym (mul-one c)
  shifts-low (suc n) j c e h =
      let l : 2 ^ j ≤ 2 ^ (n + j) = pow_mono {i = j} {j = n + j} (omega arith) in
      let b : c * 2 < 2 ^ suc j = rw pow-suc (omega arith) in
      ap (shifts k n) (shift-low (n + j) c (omega arith) (omega arith)) ∙ shifts-low n (suc j) (c * 2) (omega arith) b
      ∙ mul_assoc c 2 (2 ^ n) ∙ ap (λ (z : ℕ). c * z) (mul_comm 2 (2 ^ n) ∙ sym (pow-suc 2 n))

  -- the register c and, in its n top places, x: the table at what those places then hold, and the rest moved up
  pub by-table : (n j c x : ℕ) → n + j ≡ k.width → shifts k n (bit_xor c (x * 2 ^ j)) ≡ bit_xor (c % 2 ^ j * 2 ^ n) (shifts k n (bit_xor (c / 2 ^ j) x * 2 ^ j))
  by-table n j c x e =
      let hi = c / 2 ^ j in
      let lo = c % 2 ^ j in
      let l : lo < 2 ^ j = mod-lt c (pow_pos j) in
      let s : c ≡ bit_xor lo (hi * 2 ^ j) = sym (split c j) ∙ sym (xor_shifted hi j lo l) ∙ xor_comm (hi * 2 ^ j) lo in
      ap (shifts k n)
      (ap (λ (z : ℕ). bit_xor z (x * 2 ^ j)) s ∙ xor_assoc lo (hi * 2 ^ j) (x * 2 ^ j) ∙ ap (bit_xor lo) (sym (xor-times j hi x)))
      ∙ shifts-xor k n lo (bit_xor hi x * 2 ^ j)
      ∙ ap (λ (z : ℕ). bit_xor z (shifts k n (bit_xor hi x * 2 ^ j))) (shifts-low n j lo e l)

-- the step in code: the shift drops what the table is asked about
pub byte_step : (c b e : ℕ) → c < 65536 → e ≡ crc_byte ccitt 0 (bit_xor (c / 256) b) → bit_xor (c * 256 % 65536) e ≡ crc_byte ccitt c b
unfolding crc_byte
byte_step c b e h q = let m : c * 256 % 65536 ≡ c % 256 * 256 = omega arith in ap₂ bit_xor m q ∙ sym (by-table ccitt 8 8 c b refl)

-- two entries of the table for the byte x, both found by x alone
abbrev pub entries : ℕ → ℕ
entries x = bit_xor (shifts ccitt 4 (x / 16 * 4096) * 16 % 65536) (shifts ccitt 4 (bit_xor (x % 16) (x / 16) * 4096))

-- they make its step: a test that antt computes for each byte
pub two_steps : (x : ℕ) → x < 256 → entries x ≡ crc_byte ccitt 0 x
unfolding shift shifts crc_byte
two_steps = agree entries (crc_byte ccitt 0) 256 tt

pub is-table : (t : List ℕ) → T (all (λ i. eqb (get_or t i 0) (shifts ccitt 4 (i * 4096))) 16) → IsTable t
is-table t h = record { entry = agree (λ i. get_or t i 0) (λ i. shifts ccitt 4 (i * 4096)) 16 h }
