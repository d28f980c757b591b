-- RULES 16.1, 16.7: the table of an allocator, and the node ID for a new unique ID.
use Rattle.std.specs.Prelude.{Bool, true, false, not, ◌&&◌, ◌||◌, List, [], ◌∷◌, ◌++◌, ℕ, zero, suc, ◌-◌, ◌^◌, eqb, ltb, leb, take, drop}
use Rattle.std.proofs.Math.Option.{Option, none, some}
use Rattle.rules.specs.Tests.{pick, bit}
use Rattle.allocator_table.specs.Limits.{node_max}
use Rattle.allocator_table.specs.declared.free.Reserved.{Reserved}

-- a unique ID is the number of its 16 bytes, low byte first
pub record Entry : Type 0 where
  pub unique : ℕ
  pub node : ℕ

abbrev pub entry : ℕ → ℕ → Entry
entry u n = record { unique = u; node = n }

-- ── looking up ──

-- the node ID n is that of an entry
unfoldable pub holds : ℕ → List Entry → Bool
holds n [] = false
holds n (e ∷ t) = eqb e.node n || holds n t

-- the node ID of a unique ID
unfoldable pub node_of : ℕ → List Entry → Option ℕ
node_of u [] = none
node_of u (e ∷ t) = pick (eqb e.unique u) (some e.node) (node_of u t)

-- ── entries in ascending order of their unique IDs ──

-- where a unique ID belongs: behind the smaller ones
unfoldable pub place_for : ℕ → List Entry → ℕ
place_for u [] = 0
place_for u (e ∷ t) = pick (ltb e.unique u) (suc (place_for u t)) 0

unfoldable pub insert : Entry → List Entry → List Entry
insert e t = take (place_for e.unique t) t ++ (e ∷ drop (place_for e.unique t) t)

-- ── RULES 16.10: no fault ──

abbrev pub is_givable : ℕ → Bool
is_givable n = ltb 0 n && leb n node_max

-- a unique ID is below that of the first entry
unfoldable pub below : ℕ → List Entry → Bool
below u [] = true
below u (e ∷ t) = ltb u e.unique

-- an entry's node ID is 1 to 125 and none of a later one, and its unique ID is below the next one's
unfoldable pub fits_before : Entry → List Entry → Bool
fits_before e t = is_givable e.node && (not (holds e.node t) && below e.unique t)

unfoldable pub sound : List Entry → Bool
sound [] = true
sound (e ∷ t) = fits_before e t && sound t

-- ── RULES 16.7: the ID for a new unique ID ──

-- RULES 16.2: node n is marked as static
unfoldable pub is_marked : Reserved → ℕ → Bool
is_marked r n = pick (ltb n 64) (bit r.low (2 ^ n)) (bit r.high (2 ^ (n - 64)))

unfoldable pub is_free : Reserved → List Entry → ℕ → Bool
is_free r t n = is_givable n && (not (eqb n r.own) && (not (is_marked r n) && not (holds n t)))

-- the lowest of n numbers from i on
unfoldable pub lowest_from : (ℕ → Bool) → ℕ → ℕ → Option ℕ
lowest_from f i zero = none
lowest_from f i (suc n) = pick (f i) (some i) (lowest_from f (suc i) n)

-- the highest number below n
unfoldable pub highest_below : (ℕ → Bool) → ℕ → Option ℕ
highest_below f zero = none
highest_below f (suc n) = pick (f n) (some n) (highest_below f n)

abbrev pub or_else : Option ℕ → Option ℕ → Option ℕ
or_else none y = y
or_else (some x) y = some x

-- from the preferred ID p up to 125, else below p downwards
unfoldable pub given : (ℕ → Bool) → ℕ → Option ℕ
given f p = or_else (lowest_from f p (suc node_max - p)) (highest_below f p)
