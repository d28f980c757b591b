-- RULES 17.4, 17.9: the size of an array, and how the normalized form has it.
use Rattle.std.specs.Prelude.{Bool, true, cond, ◌&&◌, List, [], ◌++◌, ℕ, ◌-◌, leb, ltb, eqb, length, get_or, take, drop}
use Rattle.digits.specs.Digits.{decimal}
use Rattle.dsdl_text.specs.Text.{chars, first}
use Rattle.dsdl_number.specs.Integer.{is_integer, integer}
use Rattle.dsdl_type.specs.declared.size.Bounds.{Bounds}
use Rattle.dsdl_type.specs.declared.size.Bounds.TheVariants.{Exactly, Below, AtMost}

-- an integer literal, with a plus before it or none; 0 of any other text
abbrev pub unsigned : List ℕ → ℕ
unsigned l = cond (is_integer l) (integer l) 0

abbrev pub count : List ℕ → ℕ
count l = unsigned (cond (eqb (first l) 43) (drop 1 l) l)

-- how a size is written, by what is between its brackets
abbrev pub bounds_of : List ℕ → Bounds
bounds_of l = cond (eqb (first l) 60) (cond (eqb (get_or l 1 0) 61) AtMost Below) Exactly

-- the largest number of items by what is between the brackets; 0, which is none, of what is wrong
abbrev pub items_by : Bounds → List ℕ → ℕ
items_by Exactly l = count l
items_by Below l = count (drop 1 l) - 1
items_by AtMost l = count (drop 2 l)

abbrev pub is_bracketed : List ℕ → Bool
is_bracketed s = leb 2 (length s) && (eqb (first s) 91 && eqb (get_or s (length s - 1) 0) 93)

-- what is between the brackets; nothing if they are not there
abbrev pub inside : List ℕ → List ℕ
inside s = cond (is_bracketed s) (take (length s - 2) (drop 1 s)) []

unfoldable pub items : List ℕ → ℕ
items s = items_by (bounds_of (inside s)) (inside s)

-- no size, or a right one
abbrev pub size_fits : List ℕ → Bool
size_fits s = cond (eqb (length s) 0) true (ltb 0 (items s))

abbrev pub bracket : Bounds → List ℕ
bracket Exactly = chars "["
bracket Below = chars "[<="
bracket AtMost = chars "[<="

-- in the normalized form
unfoldable pub size_form : List ℕ → List ℕ
size_form s = cond (eqb (length s) 0) [] (bracket (bounds_of (inside s)) ++ (decimal (items s) ++ chars "]"))
