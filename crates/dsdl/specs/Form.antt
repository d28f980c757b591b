-- RULES 17.9, 17.10: the normalized form of a definition, and its nested types.
use Rattle.std.specs.Prelude.{cond, List, [], ◌∷◌, ◌++◌, ℕ}
use Rattle.dsdl_text.specs.Text.{chars}
use Rattle.dsdl_text.specs.Names.{space_of, full_name}
use Rattle.dsdl_type.specs.Base.{base_text, size_text, base_of, is_nested}
use Rattle.dsdl_type.specs.Size.{size_form}
use Rattle.dsdl_line.specs.declared.shape.Cast.{Cast}
use Rattle.dsdl_line.specs.declared.shape.Cast.TheVariants.{Unsaid, Saturated, Truncated}
use Rattle.dsdl_line.specs.Line.{Line}
use Rattle.dsdl_line.specs.Line.Line.{nothing, marker, union, padding, field, constant, wrong}
use Rattle.dsdl.specs.Definition.{lines_of}

abbrev pub cast_form : Cast → List ℕ
cast_form Unsaid = chars "saturated "
cast_form Saturated = chars "saturated "
cast_form Truncated = chars "truncated "

-- a type of a definition in the namespace `space`
abbrev pub type_form : List ℕ → Cast → List ℕ → List ℕ
type_form space c w =
    cond (is_nested (base_of (base_text w))) (full_name space (base_text w)) (cast_form c ++ base_text w) ++ size_form (size_text w)

-- what a line adds
unfoldable pub line_form : List ℕ → Line → List ℕ
line_form space nothing = []
line_form space marker = 10 ∷ chars "---"
line_form space union = 10 ∷ chars "@union"
line_form space (padding w) = 10 ∷ w
line_form space (field c w x) = 10 ∷ (type_form space c w ++ (32 ∷ x))
line_form space (constant x) = []
line_form space wrong = []

unfoldable pub lines_form : List ℕ → List Line → List ℕ
lines_form space [] = []
lines_form space (l ∷ ls) = line_form space l ++ lines_form space ls

abbrev pub form_of : List ℕ → List ℕ → List ℕ
form_of name text = name ++ lines_form (space_of name) (lines_of text)

-- the full names of nested types, in order
abbrev pub nested_in : List ℕ → Line → List (List ℕ)
nested_in space nothing = []
nested_in space marker = []
nested_in space union = []
nested_in space (padding w) = []
nested_in space (field c w x) = cond (is_nested (base_of (base_text w))) (full_name space (base_text w) ∷ []) []
nested_in space (constant x) = []
nested_in space wrong = []

unfoldable pub nested_types : List ℕ → List Line → List (List ℕ)
nested_types space [] = []
nested_types space (l ∷ ls) = nested_in space l ++ nested_types space ls
