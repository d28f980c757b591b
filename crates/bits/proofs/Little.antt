-- Laws of `le` and `le_bytes`.
use mathlib.Core.Path.{◌≡◌, refl, ap}
use mathlib.Core.List.{List, [], ◌∷◌, ◌++◌}
use Prim.Native.Nat.{ℕ, zero, suc, ◌+◌, ◌*◌, ◌-◌, ◌/◌, ◌%◌, ◌^◌, ◌≤◌, ◌<◌}
use native.Mathlib.Nat.{pow-suc, pow-le-pow_right, sub-zero}
use native.Mathlib.Numerals.{add-one}
use native.Mathlib.Omega.{arith}
use lib.Dec.{lit<}
use lib.ListN.{length, get_or, replicate}
use lib.Seq.{drop-cons}
use Rattle.bits.specs.Laws.{LittleLaw}
use Rattle.bits.specs.Little.{le, le_bytes}
use Rattle.bits.specs.Order.{Octets}
use Rattle.bits.specs.Part.{span}

pub length-le_bytes : (n v : ℕ) → length (le_bytes n v) ≡ n
unfolding le_bytes
length-le_bytes zero v = refl
length-le_bytes (suc n) v = ap suc (length-le_bytes n (v / 256))

-- reading what was written
pub le-le_bytes : LittleLaw
unfolding le le_bytes
le-le_bytes zero v h = omega arith
le-le_bytes (suc n) v h =
    let p : 256 ^ suc n ≡ 256 ^ n * 256 = pow-suc 256 n in
    let ih : le (le_bytes n (v / 256)) ≡ v / 256 = le-le_bytes n (v / 256) (omega arith) in
    omega arith

-- seven bytes leave room for one more in a word
pub seven-bytes : (n : ℕ) → n ≤ 7 → 256 ^ n ≤ 2 ^ 56
seven-bytes n h = pow-le-pow_right (lit< tt) h

-- bytes stand for a number below as many powers of 256
pub le-lt : (bs : List ℕ) → Octets bs → le bs < 256 ^ length bs
unfolding le
le-lt [] h = lit< tt
le-lt (b ∷ bs) h =
    let p : 256 ^ suc (length bs) ≡ 256 ^ length bs * 256 = pow-suc 256 (length bs) in
    let ih : le bs < 256 ^ length bs = le-lt bs h.1 in
    omega (arith, h.0)

-- n bytes are the bytes of their number
pub le_bytes-le : (bs : List ℕ) → Octets bs → le_bytes (length bs) (le bs) ≡ bs
unfolding le le_bytes
le_bytes-le [] h = refl
le_bytes-le (b ∷ bs) h =
    let b' : (b + 256 * le bs) % 256 ≡ b = omega (arith, h.0) in
    let q : (b + 256 * le bs) / 256 ≡ le bs = omega (arith, h.0) in
    rw (b', q, le_bytes-le bs h.1)

-- one byte is its own number
pub le-one : (m : List ℕ) (at : ℕ) → at < length m → le (span m at 1) ≡ get_or m at 0
unfolding le
le-one m at h = rw (drop-cons m at 0) (omega arith)

-- a byte and those after it
le-more : (m : List ℕ) (at n : ℕ) → at < length m → le (span m at (suc n)) ≡ get_or m at 0 + 256 * le (span m (at + 1) n)
unfolding le
le-more m at n h = rw (drop-cons m at 0, add-one)

-- two bytes
pub le-two : (m : List ℕ) (at : ℕ) → at + 2 ≤ length m → le (span m at 2) ≡ get_or m at 0 + 256 * get_or m (at + 1) 0
le-two m at h = omega (arith, le-more m at 1 (omega arith), le-one m (at + 1) (omega arith))

-- four bytes and those after them
pub le_four : (m : List ℕ) (at n : ℕ) → at + 4 ≤ length m
    → le (span m at (suc (suc (suc (suc n)))))
    ≡ get_or m at 0 + 256 * get_or m (at + 1) 0 + 65536 * get_or m (at + 2) 0 + 16777216 * get_or m (at + 3) 0 + 4294967296 * le (span m (at + 4) n)
le_four m at n h =
    let a : at + 1 + 1 ≡ at + 2 = omega arith in
    let b : at + 2 + 1 ≡ at + 3 = omega arith in
    let d : at + 3 + 1 ≡ at + 4 = omega arith in
    omega (
      arith,
      le-more m at (suc (suc (suc n))) (omega arith),
      rw a at (le-more m (at + 1) (suc (suc n)) (omega arith)),
      rw b at (le-more m (at + 2) (suc n) (omega arith)),
      rw d at (le-more m (at + 3) n (omega arith)),
    )

-- the same by the number of the four
pub le_low : (m : List ℕ) (at n : ℕ) → at + 4 ≤ length m → le (span m at (suc (suc (suc (suc n))))) ≡ le (span m at 4) + 4294967296 * le (span m (at + 4) n)
unfolding le
le_low m at n h = omega (arith, le_four m at n h, le_four m at 0 h)

-- the lowest bytes of a number do not see the rest of it
low_byte : (v : ℕ) → (v % 4294967296 % 256 ≡ v % 256) × (v % 4294967296 / 256 ≡ v / 256 % 16777216)
low_byte v = (omega arith, omega arith)

low-byte-2 : (v : ℕ) → (v % 16777216 % 256 ≡ v % 256) × (v % 16777216 / 256 ≡ v / 256 % 65536)
low-byte-2 v = (omega arith, omega arith)

low-byte-3 : (v : ℕ) → (v % 65536 % 256 ≡ v % 256) × (v % 65536 / 256 % 256 ≡ v / 256 % 256)
low-byte-3 v = (omega arith, omega arith)

-- the lowest four bytes of a number and the next ones
pub le_bytes-four : (n v : ℕ) → le_bytes (suc (suc (suc (suc n)))) v ≡ le_bytes 4 (v % 4294967296) ++ le_bytes n (v / 4294967296)
unfolding le_bytes
le_bytes-four n v =
    let f : v / 256 / 256 / 256 / 256 ≡ v / 4294967296 = omega arith in
    rw (
      (low_byte v).0,
      (low_byte v).1,
      (low-byte-2 (v / 256)).0,
      (low-byte-2 (v / 256)).1,
      (low-byte-3 (v / 256 / 256)).0,
      (low-byte-3 (v / 256 / 256)).1,
      f,
    )

zero-bytes : (n : ℕ) → le_bytes n 0 ≡ replicate n 0
unfolding le_bytes
zero-bytes zero = refl
zero-bytes (suc n) = ap (λ (l : List ℕ). 0 ∷ l) (zero-bytes n)

-- more bytes than a number has are zeros after them
pub le_bytes-padded : (bs : List ℕ) (n : ℕ) → Octets bs → length bs ≤ n → le_bytes n (le bs) ≡ bs ++ replicate (n - length bs) 0
unfolding le le_bytes
le_bytes-padded [] n h l = rw sub-zero (zero-bytes n)
le_bytes-padded (b ∷ bs) zero h l = absurd (omega arith)
le_bytes-padded (b ∷ bs) (suc n) h l =
    let b' : (b + 256 * le bs) % 256 ≡ b = omega (arith, h.0) in
    let q : (b + 256 * le bs) / 256 ≡ le bs = omega (arith, h.0) in
    let k : suc n - suc (length bs) ≡ n - length bs = omega arith in
    rw (b', q, k) (ap (λ (x : List ℕ). b ∷ x) (le_bytes-padded bs n h.1 (omega arith)))
