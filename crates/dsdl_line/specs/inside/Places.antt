-- RULES 17.2: the words of a line by their places.
use Rattle.std.specs.Prelude.{Bool, true, false, cond, ◌&&◌, List, ℕ}
use Rattle.dsdl_text.specs.declared.word.Word.{Word}
use Rattle.dsdl_text.specs.Text.{chars, same}
use Rattle.dsdl_text.specs.inside.Words.{part}
use Rattle.dsdl_line.specs.declared.shape.Places.{Places}
use Rattle.dsdl_line.specs.declared.shape.Places.TheVariants.{Nothing, Marker, Union, Padding, Field, Constant, Wrong}
use Rattle.dsdl_line.specs.Line.{Shape, constant_type}
use Rattle.dsdl_line.specs.Line.Shape.{nothing, marker, union, padding, field, constant, wrong}

abbrev pub word_of : List ℕ → Word → List ℕ
word_of l w = part l w.at w.end

-- what the places in a line stand for
abbrev pub meaning : List ℕ → Places → Shape
meaning l Nothing = nothing
meaning l Marker = marker
meaning l Union = union
meaning l (Padding w) = padding (word_of l w)
meaning l (Field c w x) = field c (word_of l w) (word_of l x)
meaning l (Constant w x i) = constant (word_of l w) (word_of l x) (word_of l i)
meaning l Wrong = wrong

-- a constant by its words, y being the one behind the name
abbrev pub constant_with : List ℕ → Word → Word → Word → ℕ → Shape
constant_with l w x y stop =
    cond (constant_type (word_of l w) && same (word_of l y) (chars "=")) (constant (word_of l w) (word_of l x) (part l y.end stop)) wrong

abbrev pub is_marker_at : Places → Bool
is_marker_at Nothing = false
is_marker_at Marker = true
is_marker_at Union = false
is_marker_at (Padding w) = false
is_marker_at (Field c w x) = false
is_marker_at (Constant w x i) = false
is_marker_at Wrong = false
