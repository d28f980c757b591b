-- Lists of bytes stay lists of bytes.
use mathlib.Core.List.{List, [], ◌∷◌, ◌++◌}
use Prim.Native.Nat.{ℕ, zero, suc, ◌+◌, ◌/◌, ◌<◌}
use native.Mathlib.Omega.{arith}
use lib.ListN.{length, take, drop, set, get_or}
use Rattle.bits.specs.Little.{le_bytes}
use Rattle.bits.specs.Order.{Octets}
use Rattle.bits.specs.Part.{span, splice}

-- from what is known of a slice
pub octets-all : (m : List ℕ) → ((i : ℕ) → get_or m i 0 < 256) → Octets m
octets-all [] h = tt
octets-all (b ∷ bs) h = (h 0, octets-all bs (λ i. h (suc i)))

pub octets-drop : (n : ℕ) (m : List ℕ) → Octets m → Octets (drop n m)
octets-drop zero m h = h
octets-drop (suc n) [] h = tt
octets-drop (suc n) (b ∷ bs) h = octets-drop n bs h.1

pub octets-take : (n : ℕ) (m : List ℕ) → Octets m → Octets (take n m)
octets-take zero m h = tt
octets-take (suc n) [] h = tt
octets-take (suc n) (b ∷ bs) h = (h.0, octets-take n bs h.1)

pub octets-append : (xs ys : List ℕ) → Octets xs → Octets ys → Octets (xs ++ ys)
octets-append [] ys h k = k
octets-append (x ∷ xs) ys h k = (h.0, octets-append xs ys h.1 k)

pub octets-set : (m : List ℕ) (i b : ℕ) → b < 256 → Octets m → Octets (set m i b)
octets-set [] i b l h = tt
octets-set (x ∷ xs) zero b l h = (l, h.1)
octets-set (x ∷ xs) (suc i) b l h = (h.0, octets-set xs i b l h.1)

pub octets-span : (m : List ℕ) (at n : ℕ) → Octets m → Octets (span m at n)
octets-span m at n h = octets-take n (drop at m) (octets-drop at m h)

pub octets-splice : (m : List ℕ) (at : ℕ) (ys : List ℕ) → Octets m → Octets ys → Octets (splice m at ys)
octets-splice m at ys h k =
    octets-append (take at m) (ys ++ drop (at + length ys) m) (octets-take at m h) (octets-append ys (drop (at + length ys) m) k (octets-drop (at + length ys) m h))

pub octets-le_bytes : (n v : ℕ) → Octets (le_bytes n v)
unfolding le_bytes
octets-le_bytes zero v = tt
octets-le_bytes (suc n) v = (omega arith, octets-le_bytes n (v / 256))
