-- RULES 17.1: what is left of a line without its comment, and its words one by one.
use Rattle.std.specs.Prelude.{Bool, List, ℕ, take, drop}
use Rattle.dsdl_text.specs.declared.class.Class.TheVariants.{Bare, Blank, Visible}
use Rattle.dsdl_text.specs.Class.{run, all}

abbrev pub bare : List ℕ → List ℕ
bare l = take (run Bare l) l

-- without the blanks at the front
abbrev pub skip : List ℕ → List ℕ
skip l = drop (run Blank l) l

-- the word at the front, and what comes behind it
abbrev pub word : List ℕ → List ℕ
word l = take (run Visible l) l

abbrev pub past : List ℕ → List ℕ
past l = drop (run Visible l) l

-- no word is left
abbrev pub ended : List ℕ → Bool
ended l = all Blank l
