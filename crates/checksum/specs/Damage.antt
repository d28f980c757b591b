-- RULES 6.6: how much damage the transfer checksum always catches. `laws.rt` has a function whose contract this is.
use Rattle.std.specs.Prelude.{◌≡◌, Bool, false, List, [], ◌∷◌, ℕ, ◌+◌, ◌%◌, ◌≤◌, ◌<◌, length, get_or}
use Rattle.std.specs.Bool.{xor}
use Rattle.bits.specs.Order.{one, unpack}
use Rattle.checksum.specs.Crc16.{checksum}

-- bit i of a payload, counted from 0, the highest bit of each byte first
abbrev pub bit_at : List ℕ → ℕ → Bool
bit_at p i = get_or (unpack p) i false

abbrev pub Altered : List ℕ → List ℕ → ℕ → Type 0
Altered p q i = bit_at p i ≡ bit_at q i → ⊥

-- how many bits next to one another may be altered, all or some of them
abbrev pub burst_max : ℕ
burst_max = 16

-- at least one bit is altered, and all that are lie within w consecutive ones
pub record Burst (w : ℕ) (p q : List ℕ) : Type 0 where
  pub bit : ℕ
  pub altered : Altered p q bit
  pub from : ℕ
  pub within : (i : ℕ) → Altered p q i → (from ≤ i) × (i < from + w)

-- how many bits are altered
unfoldable pub alterations : List Bool → List Bool → ℕ
alterations [] v = 0
alterations (x ∷ w) [] = 0
alterations (x ∷ w) (y ∷ v) = one (xor x y) + alterations w v

pub record DamageLaws : Type 0 where
  -- a burst is caught, under every signature
  pub burst : (signature : ℕ) (p q : List ℕ) → length p ≡ length q → Burst burst_max p q → checksum signature p ≡ checksum signature q → ⊥
  -- so is any odd number of altered bits, wherever they are
  pub odd : (signature : ℕ) (p q : List ℕ) → length p ≡ length q → alterations (unpack p) (unpack q) % 2 ≡ 1
      → checksum signature p ≡ checksum signature q → ⊥
  -- one bit more is too many: the polynomial itself, 17 bits long, goes unseen under every signature
  pub limit : Burst (burst_max + 1) (0 ∷ 0 ∷ 0 ∷ []) (0x01 ∷ 0x10 ∷ 0x21 ∷ [])
      × ((signature : ℕ) → checksum signature (0 ∷ 0 ∷ 0 ∷ []) ≡ checksum signature (0x01 ∷ 0x10 ∷ 0x21 ∷ []))
