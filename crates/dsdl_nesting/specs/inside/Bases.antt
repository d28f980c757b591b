-- RULES 17.10: the nested type of a line by its place.
use Rattle.std.specs.Prelude.{cond, Option, Some, None, List, [], ◌∷◌, ℕ}
use Rattle.dsdl_text.specs.Names.{full_name}
use Rattle.dsdl_text.specs.declared.word.Word.{Word}
use Rattle.dsdl_type.specs.Base.{base_text, base_of, is_nested}
use Rattle.dsdl_line.specs.inside.Places.{word_of}

-- its full name, if there is one
abbrev pub nested_at : List ℕ → List ℕ → Option Word → List (List ℕ)
nested_at space l None = []
nested_at space l (Some b) = full_name space (word_of l b) ∷ []

-- that of a type word
abbrev pub nested_by : List ℕ → List ℕ → List (List ℕ)
nested_by space w = cond (is_nested (base_of (base_text w))) (full_name space (base_text w) ∷ []) []
