-- How the code of values goes about reals that are no floats, and tags, in rows.
use Rattle.std.specs.Prelude.{Bool, ◌&&◌, ◌||◌, List, ℕ, ◌+◌, ◌-◌, ◌^◌, eqb, ltb, get_or}

-- from the i-th word on, a real of more than 32 bits
unfoldable pub too_large : List ℕ → ℕ → Bool
too_large ws i = eqb (get_or ws i 0) 2 && ltb (2 ^ 32 - 1) (get_or ws (i + 1) 0)

-- of the four values of a response
abbrev pub any_too_large : List ℕ → Bool
any_too_large ws = (too_large ws 0 || too_large ws 4) || (too_large ws 8 || too_large ws 10)

abbrev pub all_known : List ℕ → Bool
all_known ws = ltb (get_or ws 0 0) 5 && (ltb (get_or ws 4 0) 5 && (ltb (get_or ws 8 0) 3 && ltb (get_or ws 10 0) 3))
