-- RULES 9.1, 9.2: the order of bits. A number is cut into octets from the low end; each octet, of which the last one may be
-- short, is written highest bit first, and bytes are filled from the top. Bits are Bools.
use Rattle.std.specs.Prelude.{Bool, true, false, List, [], ◌∷◌, ◌++◌, ℕ, zero, suc, ◌+◌, ◌*◌, ◌-◌, ◌/◌, ◌%◌, ◌<◌, eqb, length, take, drop, replicate}
use Rattle.bits.specs.Part.{splice}

-- ── bits and numbers, highest bit first ──

abbrev pub one : Bool → ℕ
one true = 1
one false = 0

abbrev pub odd : ℕ → Bool
odd n = eqb (n % 2) 1

-- the k lowest bits of n
unfoldable pub digits : ℕ → ℕ → List Bool
digits zero n = []
digits (suc k) n = digits k (n / 2) ++ (odd n ∷ [])

unfoldable pub value_from : ℕ → List Bool → ℕ
value_from a [] = a
value_from a (b ∷ bs) = value_from (a + a + one b) bs

-- the number that bits stand for
abbrev pub value : List Bool → ℕ
value bs = value_from 0 bs

-- ── bytes ──

-- every element is a byte
abbrev pub Octets : List ℕ → Type 0
Octets [] = Unit {0}
Octets (b ∷ bs) = (b < 256) × Octets bs

-- the bits of bytes
unfoldable pub unpack : List ℕ → List Bool
unpack [] = []
unpack (b ∷ bs) = digits 8 b ++ unpack bs

-- n bytes, filled from the top
unfoldable pub bytes : ℕ → List Bool → List ℕ
bytes zero bs = []
bytes (suc n) bs = value (take 8 bs) ∷ bytes n (drop 8 bs)

-- the bytes that n bits take
abbrev pub bytes_for : ℕ → ℕ
bytes_for n = (n + 7) / 8

abbrev pub padding : List Bool → List Bool
padding bs = replicate (bytes_for (length bs) * 8 - length bs) false

-- RULES 9.1: bits as bytes, the last byte filled up with zeros
abbrev pub pack : List Bool → List ℕ
pack bs = bytes (bytes_for (length bs)) (bs ++ padding bs)

-- ── a number of w bits ──

unfoldable pub octets : ℕ → ℕ → ℕ → List Bool
octets zero r n = digits r n
octets (suc q) r n = digits 8 n ++ octets q r (n / 256)

-- RULES 9.2: the w lowest bits of n, as w / 8 octets from the low end and one of w % 8 bits
unfoldable pub to_bits : ℕ → ℕ → List Bool
to_bits w n = octets (w / 8) (w % 8) n

unfoldable pub number : ℕ → ℕ → List Bool → ℕ
number zero r bs = value (take r bs)
number (suc q) r bs = value (take 8 bs) + 256 * number q r (drop 8 bs)

-- the number of w bits at the front of bs
unfoldable pub from_bits : ℕ → List Bool → ℕ
from_bits w bs = number (w / 8) (w % 8) bs

-- ── a store ──

-- the bytes m with the bits bs in the place of those from bit `at` on
unfoldable pub store : List ℕ → ℕ → List Bool → List ℕ
store m at bs = bytes (length m) (splice (unpack m) at bs)
