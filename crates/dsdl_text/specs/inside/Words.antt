-- RULES 17.1: words by their places in a line.
use Rattle.std.specs.Prelude.{List, ℕ, ◌+◌, ◌-◌}
use Rattle.bits.specs.Part.{span}
use Rattle.dsdl_text.specs.declared.class.Class.TheVariants.{Blank, Visible}
use Rattle.dsdl_text.specs.declared.word.Word.{Word}
use Rattle.dsdl_text.specs.Class.{run}

-- what a line has between two places
abbrev pub part : List ℕ → ℕ → ℕ → List ℕ
part l a e = span l a (e - a)

abbrev pub word_from : List ℕ → ℕ → ℕ → ℕ
word_from l from stop = from + run Blank (part l from stop)

abbrev pub word_in : List ℕ → ℕ → ℕ → Word
word_in l from stop =
    record { at = word_from l from stop; end = word_from l from stop + run Visible (part l (word_from l from stop) stop) }
