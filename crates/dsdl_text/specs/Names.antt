-- RULES 17.2, 17.3, 17.8: names, dotted names, and the names of definitions.
use Rattle.std.specs.Prelude.{Bool, true, not, cond, ◌&&◌, ◌||◌, List, [], ◌∷◌, ◌++◌, ℕ, suc, leb, eqb, length, take}
use Rattle.dsdl_text.specs.declared.class.Class.TheVariants.{Letter, Naming, Undotted}
use Rattle.dsdl_text.specs.Class.{is_in, all}
use Rattle.dsdl_text.specs.Text.{first}

-- a letter, and then letters, digits and underscores
abbrev pub is_name : List ℕ → Bool
is_name l = is_in Letter (first l) && all Naming l

-- names joined by dots; `begins`: a name begins here
abbrev pub goes_on : Bool → ℕ → Bool
goes_on begins c = cond begins (is_in Letter c) (is_in Naming c || eqb c 46)

unfoldable pub dotted_from : Bool → List ℕ → Bool
dotted_from begins [] = not begins
dotted_from begins (c ∷ cs) = goes_on begins c && dotted_from (eqb c 46) cs

abbrev pub is_dotted : List ℕ → Bool
is_dotted l = dotted_from true l

abbrev pub has_dot : List ℕ → Bool
has_dot l = not (all Undotted l)

abbrev pub name_max : ℕ
name_max = 80

abbrev pub is_full_name : List ℕ → Bool
is_full_name l = is_dotted l && (has_dot l && leb (length l) name_max)

-- the end of what comes up to the last dot, the dot included; `i` characters were passed, and `end` was found so far
unfoldable pub last_dot : ℕ → ℕ → List ℕ → ℕ
last_dot i end [] = end
last_dot i end (c ∷ cs) = last_dot (suc i) (cond (eqb c 46) (suc i) end) cs

-- the namespace of a full name, with the dot behind it
abbrev pub space_of : List ℕ → List ℕ
space_of l = take (last_dot 0 0 l) l

-- the full name of a type that a definition in the namespace `space` refers to
abbrev pub full_name : List ℕ → List ℕ → List ℕ
full_name space l = cond (has_dot l) l (space ++ l)
