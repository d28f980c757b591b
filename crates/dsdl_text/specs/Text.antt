-- Texts are lists of characters, as numbers.
use Rattle.std.specs.Prelude.{Bool, true, false, ◌&&◌, List, [], ◌∷◌, ℕ, eqb, get_or}
use Prim.Native.Char.{code}
use Prim.Native.String.{String}

-- a text as it is printed
abbrev pub chars : String → List ℕ
chars String.[] = []
chars (String.◌∷◌ c s) = code c ∷ chars s

unfoldable pub same : List ℕ → List ℕ → Bool
same [] [] = true
same [] (y ∷ ys) = false
same (x ∷ xs) [] = false
same (x ∷ xs) (y ∷ ys) = eqb x y && same xs ys

-- the first character; 0, which no rule allows, if there is none
abbrev pub first : List ℕ → ℕ
first l = get_or l 0 0
