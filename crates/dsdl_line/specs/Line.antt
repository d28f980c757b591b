-- RULES 17.2: what a line is.
use Rattle.std.specs.Prelude.{Bool, true, false, cond, ◌&&◌, ◌||◌, List, ℕ, eqb, length}
use Rattle.dsdl_text.specs.Text.{chars, same}
use Rattle.dsdl_text.specs.Words.{bare, skip, word, past, ended}
use Rattle.dsdl_text.specs.Names.{is_name}
use Rattle.dsdl_number.specs.Number.{initializer}
use Rattle.dsdl_type.specs.Base.{base_text, size_text, base_of, is_primitive, is_nested, is_void}
use Rattle.dsdl_type.specs.Size.{size_fits}
use Rattle.dsdl_type.specs.Constant.{fits}
use Rattle.dsdl_line.specs.declared.shape.Cast.{Cast}
use Rattle.dsdl_line.specs.declared.shape.Cast.TheVariants.{Unsaid, Saturated, Truncated}

-- ── the words of a line ──

pub data Shape : Type 0 where
  nothing : Shape
  marker : Shape
  union : Shape
  padding : List ℕ → Shape  -- its word
  field : Cast → List ℕ → List ℕ → Shape  -- cast mode, type word, name
  constant : List ℕ → List ℕ → List ℕ → Shape  -- type word, name, what follows the equals sign
  wrong : Shape

abbrev pub is_unsaid : Cast → Bool
is_unsaid Unsaid = true
is_unsaid Saturated = false
is_unsaid Truncated = false

-- a type that a field may have: primitive, or nested with no cast mode
abbrev pub field_type : Cast → List ℕ → Bool
field_type c w = size_fits (size_text w) && (is_primitive (base_of (base_text w)) || (is_unsaid c && is_nested (base_of (base_text w))))

abbrev pub constant_type : List ℕ → Bool
constant_type w = eqb (length (size_text w)) 0 && is_primitive (base_of (base_text w))

-- a type word and a name, and what comes behind them
abbrev pub attribute_with : Cast → List ℕ → List ℕ → List ℕ → Shape
attribute_with c w x l =
    cond (is_name x) (cond (ended l) (cond (field_type c w) (field c w x) wrong)
    (cond (constant_type w && same (word (skip l)) (chars "=")) (constant w x (past (skip l))) wrong)) wrong

abbrev pub attribute : Cast → List ℕ → List ℕ → Shape
attribute c w l = attribute_with c w (word (skip l)) (past (skip l))

abbrev pub cast_attribute : Cast → List ℕ → Shape
cast_attribute c l = attribute c (word (skip l)) (past (skip l))

-- a line whose first word is w, with l behind it
abbrev pub shape_with : List ℕ → List ℕ → Shape
shape_with w l =
    cond (same w (chars "---") && ended l) marker
    (cond (same w (chars "@union") && ended l) union
    (cond (same w (chars "saturated")) (cast_attribute Saturated l)
    (cond (same w (chars "truncated")) (cast_attribute Truncated l)
    (cond (is_void (base_of w) && ended l) (padding w) (attribute Unsaid w l)))))

unfoldable pub shape_of : List ℕ → Shape
shape_of l = cond (ended (bare l)) nothing (shape_with (word (skip (bare l))) (past (skip (bare l))))

-- ── with the values of constants judged ──

pub data Line : Type 0 where
  nothing : Line
  marker : Line
  union : Line
  padding : List ℕ → Line
  field : Cast → List ℕ → List ℕ → Line
  constant : List ℕ → Line  -- its name
  wrong : Line

abbrev pub judged : Shape → Line
judged nothing = nothing
judged marker = marker
judged union = union
judged (padding w) = padding w
judged (field c w x) = field c w x
judged (constant w x i) = cond (fits (base_of (base_text w)) (initializer (skip i))) (constant x) wrong
judged wrong = wrong

abbrev pub line_of : List ℕ → Line
line_of l = judged (shape_of l)
