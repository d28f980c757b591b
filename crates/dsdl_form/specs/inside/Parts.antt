-- RULES 17.9: parts of what a field adds to the form.
use Rattle.std.specs.Prelude.{cond, List, ◌∷◌, ◌++◌, ℕ}
use Rattle.dsdl_text.specs.Names.{full_name}
use Rattle.dsdl_type.specs.Base.{base_of, is_nested}
use Rattle.dsdl_line.specs.declared.shape.Cast.{Cast}
use Rattle.dsdl.specs.Form.{cast_form, type_form}

-- a type of the base b without its size
abbrev pub base_form : List ℕ → Cast → List ℕ → List ℕ
base_form space c b = cond (is_nested (base_of b)) (full_name space b) (cast_form c ++ b)

-- a line with a type and a name
abbrev pub field_form : List ℕ → Cast → List ℕ → List ℕ → List ℕ
field_form space c w x = 10 ∷ (type_form space c w ++ (32 ∷ x))
