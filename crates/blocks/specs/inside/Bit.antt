-- RULES 5.2: one number of a set.
use Rattle.std.specs.Prelude.{Bool, true, false, List, [], ◌∷◌, ℕ, zero, suc, ◌+◌, ◌-◌, ◌/◌, ◌%◌, ◌^◌, eqb}

-- bit b of n
unfoldable pub bit_at : ℕ → ℕ → ℕ
bit_at zero n = n % 2
bit_at (suc b) n = bit_at b (n / 2)

abbrev pub including_if : Bool → ℕ → ℕ → ℕ
including_if true n b = n
including_if false n b = n + 2 ^ b

-- the set n with b in it
unfoldable pub including : ℕ → ℕ → ℕ
including n b = including_if (eqb (bit_at b n) 1) n b

-- and with all of these
unfoldable pub including_all : ℕ → List ℕ → ℕ
including_all n [] = n
including_all n (b ∷ bs) = including_all (including n b) bs

abbrev pub excluding_if : Bool → ℕ → ℕ → ℕ
excluding_if true n b = n - 2 ^ b
excluding_if false n b = n

-- the set n without b
unfoldable pub excluding : ℕ → ℕ → ℕ
excluding n b = excluding_if (eqb (bit_at b n) 1) n b
