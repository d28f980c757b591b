-- Bits 0 to 23 of an ID with a named source are its stream.
use mathlib.Core.Path.{◌≡◌, refl, sym, ap, ◌∙◌}
use mathlib.Core.Bool.{Bool, true, false}
use Prim.Native.Nat.{ℕ, ◌+◌, ◌*◌, ◌/◌, ◌%◌}
use native.Mathlib.Nat.{mul-add-mod_self_left}
use native.Mathlib.Omega.{arith}
use borrow.Author.Tests.{ne_eqb, eqb-true, eqb-false}
use lib.Dec.{eqb}
use Rattle.rules.specs.Frame.{Stream, stream_if, stream_of, unnamed, is_anonymous, is_service}
use Rattle.rules.specs.Sent.{id_of, flag}
use Rattle.rules.specs.Tests.{pick, bit}

module _ (a : ℕ) where
  abbrev low : ℕ
  low = a % 16777216

  abbrev high : ℕ
  high = a / 16777216

  low-7 : low % 128 ≡ a % 128
  low-7 = omega arith

  low-8 : low / 128 % 2 ≡ a / 128 % 2
  low-8 = let q : a / 128 ≡ 2 * (65536 * high) + low / 128 = omega arith in sym (rw q (mul-add-mod_self_left 2 (65536 * high) (low / 128)))

  past-8 : a / 256 ≡ 65536 * high + low / 256
  past-8 = omega arith

  low-two : low / 256 % 4 ≡ a / 256 % 4
  low-two = let q : a / 256 ≡ 4 * (16384 * high) + low / 256 = omega arith in sym (rw q (mul-add-mod_self_left 4 (16384 * high) (low / 256)))

  low-type : low / 256 % 65536 ≡ a / 256 % 65536
  low-type = sym (rw past-8 (mul-add-mod_self_left 65536 high (low / 256)))

  low-destination : low / 256 % 128 ≡ a / 256 % 128
  low-destination = let q : a / 256 ≡ 128 * (512 * high) + low / 256 = omega arith in sym (rw q (mul-add-mod_self_left 128 (512 * high) (low / 256)))

  low-request : low / 32768 % 2 ≡ a / 32768 % 2
  low-request = let q : a / 32768 ≡ 2 * (256 * high) + low / 32768 = omega arith in sym (rw q (mul-add-mod_self_left 2 (256 * high) (low / 32768)))

  low-service : low / 65536 % 256 ≡ a / 65536 % 256
  low-service = let q : a / 65536 ≡ 256 * high + low / 65536 = omega arith in sym (rw q (mul-add-mod_self_left 256 high (low / 65536)))

  low-stream : (b : Bool) → stream_if b low ≡ stream_if b a
  low-stream true =
      λ i.
      record { transfer_type = pick (eqb (low-request i) 1) 1 2; type = low-service i; source = low-7 i; destination = low-destination i }
  low-stream false =
      λ i.
      record { transfer_type = 0; type = pick (eqb (low-7 i) 0) (low-two i) (low-type i); source = low-7 i; destination = 0 }

  low_bits : stream_of low ≡ stream_of a
  unfolding stream_of
  low_bits = ap (λ (b : Bool). stream_if b low) (ap (λ (x : ℕ). eqb x 1) low-8) ∙ low-stream (is_service a)

  message-back : (a % 128 ≡ 0 → ⊥) → is_service a ≡ false → id_of (stream_if false a) 0 ≡ low
  unfolding id_of
  message-back s e =
      let b7 : a / 128 % 2 ≡ 1 → ⊥ = eqb-false (a / 128 % 2) 1 e in
      let q8 : a / 128 / 2 ≡ a / 256 = omega arith in
      let q24 : a / 256 / 65536 ≡ a / 16777216 = omega arith in
      rw (ne_eqb (a % 128) 0 s) (omega arith)

  service-back : is_service a ≡ true → id_of (stream_if true a) 0 ≡ low
  unfolding id_of
  service-back e = go (bit a 32768) refl
    where
      b7 : a / 128 % 2 ≡ 1
      b7 = eqb-true (a / 128 % 2) 1 e

      sum : (r : ℕ) → a / 32768 % 2 ≡ r → 0 + (65536 * (a / 65536 % 256) + (32768 * r + (256 * (a / 256 % 128) + (128 + a % 128)))) ≡ low
      sum r k =
          let q8 : a / 128 / 2 ≡ a / 256 = omega arith in
          let q15 : a / 256 / 128 ≡ a / 32768 = omega arith in
          let q16 : a / 32768 / 2 ≡ a / 65536 = omega arith in
          let q24 : a / 65536 / 256 ≡ a / 16777216 = omega arith in
          let b = b7 in
          omega arith

      go : (b : Bool) → bit a 32768 ≡ b
          → 0 + pick (eqb (pick b 1 2) 0) (256 * (a / 65536 % 256) + a % 128)
          (65536 * (a / 65536 % 256) + (32768 * flag (eqb (pick b 1 2) 1) + (256 * (a / 256 % 128) + (128 + a % 128)))) ≡ low
      go true k = sum 1 (eqb-true (a / 32768 % 2) 1 k)
      go false k = sum 0 (omega (arith, eqb-false (a / 32768 % 2) 1 k))

  back : is_anonymous a ≡ false → id_of (stream_of a) 0 ≡ low
  unfolding stream_of
  back n = go (is_service a) refl n
    where
      go : (b : Bool) → is_service a ≡ b → unnamed (stream_if b a) ≡ false → id_of (stream_if b a) 0 ≡ low
      go true e n = service-back e
      go false e n = message-back (eqb-false (a % 128) 0 n) e

pub same_key : (a b : ℕ) → a % 16777216 ≡ b % 16777216 → stream_of a ≡ stream_of b
same_key a b e = sym (low_bits a) ∙ ap stream_of e ∙ low_bits b

pub other_key : (a b : ℕ) → is_anonymous b ≡ false → stream_of a ≡ stream_of b → a % 16777216 ≡ b % 16777216
other_key a b n e = sym (back a (ap unnamed e ∙ n)) ∙ ap (λ (d : Stream). id_of d 0) e ∙ back b n
