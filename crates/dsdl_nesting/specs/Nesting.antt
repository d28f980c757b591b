-- RULES 17.10: nested types. 41 and 42.
use Rattle.std.specs.Prelude.{Bool, true, false, not, cond, ◌&&◌, ◌||◌, List, [], ◌∷◌, ℕ, zero, suc}
use Rattle.dsdl_text.specs.Text.{same}
use Rattle.dsdl_given.specs.Given.{Definition, is_service_of, nested_of}

-- a message of that name is given
unfoldable pub is_given : List Definition → List ℕ → Bool
is_given [] x = false
is_given (d ∷ ds) x = (same x d.name && not (is_service_of d)) || is_given ds x

unfoldable pub every_name : (List ℕ → Bool) → List (List ℕ) → Bool
every_name f [] = true
every_name f (x ∷ xs) = f x && every_name f xs

unfoldable pub every_one : (Definition → Bool) → List Definition → Bool
every_one f [] = true
every_one f (d ∷ ds) = f d && every_one f ds

-- 41, if not
abbrev pub all_given : List Definition → Bool
all_given ds = every_one (λ (d : Definition). every_name (is_given ds) (nested_of d)) ds

-- the definition of a name that is given
unfoldable pub find : List Definition → List ℕ → Definition
find [] x = record { name = x; text = [] }
find (d ∷ ds) x = cond (same x d.name) d (find ds x)

abbrev pub chain_max : ℕ
chain_max = 4

-- no chain of nesting from d on has more than k definitions
unfoldable pub within : ℕ → List Definition → Definition → Bool
within zero ds d = false
within (suc k) ds d = every_name (λ (x : List ℕ). within k ds (find ds x)) (nested_of d)

-- 42, if not
abbrev pub all_within : List Definition → Bool
all_within ds = every_one (within chain_max ds) ds
