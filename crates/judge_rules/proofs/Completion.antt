-- Two free bytes reach every checksum: one place up can be undone.
use mathlib.Core.Path.{◌≡◌, refl, sym, ap, ap₂, ◌∙◌}
use mathlib.Core.List.{List, [], ◌∷◌, ◌++◌, append_assoc}
use Prim.Native.Nat.{ℕ, zero, suc, ◌+◌, ◌*◌, ◌/◌, ◌%◌, ◌^◌, ◌<◌}
use native.Mathlib.Omega.{arith}
use native.Mathlib.Nat.{zero-add, suc-add}
use lib.ListN.{length}
use lib.Bits.{bit_xor, xor_lt, xor_self, xor_zero_l, xor_shifted}
use Rattle.bits.specs.Little.{le_bytes}
use Rattle.bits.specs.Order.{Octets, unpack}
use Rattle.checksum.specs.Crc.{shift, shifts, crc_byte, crc_over}
use Rattle.checksum.specs.Crc16.{ccitt, checksum}
use Rattle.checksum.proofs.Linear.{shift-xor, shifts-xor, over-append}
use Rattle.checksum.proofs.Tables.{shift-low, shifts-low}
use Rattle.checksum.proofs.Window.{feeds-lt, over-feeds}
use Rattle.checksum.proofs.Xor.{bit-cases, odd-lt, xor_assoc}

-- ── one place back ──

-- what one place up makes into w
abbrev back : ℕ → ℕ
back w = bit_xor (w / 2) (w % 2 * 34832)

odd_part : (x : ℕ) → x < 2 → shift ccitt (x * 34832) ≡ x
unfolding shift
odd_part = bit-cases (λ x. shift ccitt (x * 34832) ≡ x) refl refl

shift_back : (w : ℕ) → w < 65536 → shift ccitt (back w) ≡ w
shift_back w h =
    let l : w % 2 < 2 ^ 1 = omega arith in
    let z : w / 2 * 2 + w % 2 ≡ w = omega arith in
    shift-xor ccitt (w / 2) (w % 2 * 34832) ∙ ap₂ bit_xor (shift-low ccitt 15 (w / 2) refl (omega arith)) (odd_part (w % 2) (odd-lt w)) ∙ xor_shifted (w / 2) 1 (w % 2) l ∙ z

back-lt : (w : ℕ) → w < 65536 → back w < 65536
back-lt w h = xor_lt 16 (w / 2) (w % 2 * 34832) (omega arith) (omega arith)

backs : ℕ → ℕ → ℕ
backs zero w = w
backs (suc n) w = back (backs n w)

backs-lt : (n w : ℕ) → w < 65536 → backs n w < 65536
unfolding backs
backs-lt zero w h = h
backs-lt (suc n) w h = back-lt (backs n w) (backs-lt n w h)

shifts-backs : (n w : ℕ) → w < 65536 → shifts ccitt n (backs n w) ≡ w
unfolding shifts backs
shifts-backs zero w h = refl
shifts-backs (suc n) w h = ap (shifts ccitt n) (shift_back (backs n w) (backs-lt n w h)) ∙ shifts-backs n w h

shifts-add : (n m c : ℕ) → shifts ccitt m (shifts ccitt n c) ≡ shifts ccitt (n + m) c
unfolding shifts
shifts-add zero m c = rw zero-add
shifts-add (suc n) m c = rw suc-add (shifts-add n m (shift ccitt c))

-- ── two bytes ──

two_bytes : (c x y : ℕ) → y < 256 → crc_over ccitt c (x ∷ y ∷ []) ≡ shifts ccitt 16 (bit_xor c (x * 256 + y))
unfolding crc_over crc_byte
two_bytes c x y h =
    let a : y * 256 ≡ shifts ccitt 8 y = sym (shifts-low ccitt 8 8 y refl h) in
    ap (λ z. shifts ccitt 8 (bit_xor (shifts ccitt 8 (bit_xor c (x * 256))) z)) a
    ∙ ap (shifts ccitt 8) (sym (shifts-xor ccitt 8 (bit_xor c (x * 256)) y))
    ∙ shifts-add 8 8 (bit_xor (bit_xor c (x * 256)) y)
    ∙ ap (shifts ccitt 16) (xor_assoc c (x * 256) y ∙ ap (bit_xor c) (xor_shifted x 8 y h))

pub record Reach (c w : ℕ) : Type 0 where
  pub first : ℕ
  pub second : ℕ
  pub first_small : first < 256
  pub second-small : second < 256
  pub reaches : crc_over ccitt c (first ∷ second ∷ []) ≡ w

pub reach : (c w : ℕ) → c < 65536 → w < 65536 → Reach c w
reach c w hc hw =
    let v = backs 16 w in
    let z : ℕ = bit_xor c v in
    let l : z < 65536 = xor_lt 16 c v hc (backs-lt 16 w hw) in
    let s : z / 256 * 256 + z % 256 ≡ z = omega arith in
    let t : z % 256 < 256 = omega arith in
    record {
      first = z / 256;
      second = z % 256;
      first_small = omega arith;
      second-small = t;
      reaches = two_bytes c (z / 256) (z % 256) t ∙ ap (λ x. shifts ccitt 16 (bit_xor c x)) s
          ∙ ap (shifts ccitt 16) (sym (xor_assoc c c v) ∙ ap (λ x. bit_xor x v) (xor_self c) ∙ xor_zero_l v) ∙ shifts-backs 16 w hw;
    }

-- ── the register fits ──

over-lt : (c : ℕ) (p : List ℕ) → c < 65536 → crc_over ccitt c p < 65536
over-lt c p h = rw (over-feeds c p) (feeds-lt c (unpack p) h)

pub sum_lt : (signature : ℕ) (p : List ℕ) → checksum signature p < 65536
unfolding checksum
sum_lt signature p = over-lt 65535 (le_bytes 8 signature ++ p) (omega arith)

-- ── a payload that goes on from q and has the checksum w ──

pub record Completed (signature : ℕ) (q : List ℕ) (w : ℕ) : Type 0 where
  pub rest : List ℕ
  pub octets : Octets rest
  pub three : length rest ≡ 3
  pub sum : checksum signature (q ++ rest) ≡ w

pub completed : (signature : ℕ) (q : List ℕ) (w : ℕ) → w < 65536 → Completed signature q w
unfolding checksum crc_over
completed signature q w h =
    let c = crc_over ccitt 65535 (le_bytes 8 signature ++ (q ++ (0 ∷ []))) in
    let r : Reach c w = reach c w (over-lt 65535 (le_bytes 8 signature ++ (q ++ (0 ∷ []))) (omega arith)) h in
    record {
      rest = 0 ∷ r.first ∷ r.second ∷ [];
      octets = (omega arith, (r.first_small, (r.second-small, tt)));
      three = refl;
      sum = ap (crc_over ccitt 65535) (ap (λ l. le_bytes 8 signature ++ l) (sym (append_assoc q (0 ∷ []) (r.first ∷ r.second ∷ [])))
          ∙ sym (append_assoc (le_bytes 8 signature) (q ++ (0 ∷ [])) (r.first ∷ r.second ∷ [])))
          ∙ over-append ccitt 65535 (le_bytes 8 signature ++ (q ++ (0 ∷ []))) (r.first ∷ r.second ∷ []) ∙ r.reaches;
    }
