-- RULES 20.1 to 20.3, 20.5: a queue as a list of records, the one that goes next first.
use Rattle.std.specs.Prelude.{Bool, true, ◌&&◌, List, [], ◌∷◌, ℕ, eqb, leb, take, get_or}
use Rattle.bits.specs.Little.{le}
use Rattle.rules.specs.Check.{large_id, bad_length}
use Rattle.rules.specs.Tests.{pick}

-- the 13 bytes of a frame record (RULES 2.6): ID, data length, data
abbrev pub Record : Type 0
Record = List ℕ

unfoldable pub id_of : Record → ℕ
id_of r = le (take 4 r)

-- ── RULES 20.3: what refuses a record, or 0; that of the first one that is refused ──

unfoldable pub fault_of : Record → ℕ
fault_of r = pick (large_id (id_of r)) 2 (pick (bad_length (get_or r 4 0)) 3 0)

unfoldable pub first_fault : List Record → ℕ
first_fault [] = 0
first_fault (r ∷ rs) = pick (eqb (fault_of r) 0) (first_fault rs) (fault_of r)

-- ── RULES 20.1: the order ──

-- a record goes behind those with its ID or a lower one
unfoldable pub insert : Record → List Record → List Record
insert r [] = r ∷ []
insert r (x ∷ q) = pick (leb (id_of x) (id_of r)) (x ∷ insert r q) (r ∷ (x ∷ q))

-- one after the other
unfoldable pub put_all : List Record → List Record → List Record
put_all q [] = q
put_all q (r ∷ rs) = put_all (insert r q) rs

-- ── RULES 20.5: no fault ──

-- an ID is not above that of the first record
unfoldable pub not_above : ℕ → List Record → Bool
not_above id [] = true
not_above id (x ∷ q) = leb id (id_of x)

unfoldable pub in_order : List Record → Bool
in_order [] = true
in_order (r ∷ q) = eqb (fault_of r) 0 && (not_above (id_of r) q && in_order q)
