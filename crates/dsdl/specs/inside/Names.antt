-- RULES 17.8: the names of a part, by their places in the text.
use Rattle.std.specs.Prelude.{◌≡◌, false, List, [], ◌∷◌, ℕ, zero, suc, ◌+◌, ◌*◌, ◌/◌, ◌%◌, length, get_or}
use Rattle.dsdl_text.specs.declared.word.Word.{Word}
use Rattle.dsdl_line.specs.inside.Places.{word_of}
use Rattle.dsdl.specs.Definition.{is_among}

abbrev pub names_max : ℕ
names_max = 2048

-- a place as one number
abbrev pub word_at : ℕ → Word
word_at p = record { at = p / 8192; end = p % 8192 }

-- the last one first
unfoldable pub names_at : List ℕ → List ℕ → ℕ → List (List ℕ)
names_at t seen zero = []
names_at t seen (suc n) = word_of t (word_at (get_or seen n 0)) ∷ names_at t seen n

-- a name's mark
unfoldable pub mark_from : ℕ → List ℕ → ℕ
mark_from mark [] = mark
mark_from mark (c ∷ cs) = mark_from ((mark * 131 + c) % names_max) cs

abbrev pub mark_of : List ℕ → ℕ
mark_of x = mark_from 0 x

-- room for all names, with the marks of n of them set
pub record Kept (t seen marks : List ℕ) (n : ℕ) : Type 0 where
  pub places : length seen ≡ names_max
  pub marked : length marks ≡ names_max
  pub free : (x : List ℕ) → get_or marks (mark_of x) 0 ≡ 0 → is_among x (names_at t seen n) ≡ false
