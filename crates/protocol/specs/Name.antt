-- RULES 10.8: the node name. It has at least one letter, and no letter but those below.
use Rattle.std.specs.Prelude.{Bool, true, ◌&&◌, ◌||◌, List, [], ◌∷◌, ℕ, ltb, leb, eqb, length}

unfoldable pub between : ℕ → ℕ → ℕ → Bool
between low high c = leb low c && leb c high

-- a-z, 0-9, dash and dot, underscore
unfoldable pub is_letter : ℕ → Bool
is_letter c = between 97 122 c || (between 48 57 c || (between 45 46 c || eqb c 95))

unfoldable pub all_letters : List ℕ → Bool
all_letters [] = true
all_letters (c ∷ cs) = is_letter c && all_letters cs

unfoldable pub is_name : List ℕ → Bool
is_name xs = ltb 0 (length xs) && all_letters xs
