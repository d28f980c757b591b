-- RULES 12.4: the lines of an input.
use Rattle.std.specs.Prelude.{List, [], ◌∷◌, ◌++◌, ℕ, eqb}
use Rattle.rules.specs.Tests.{pick}

-- those that have their line feed, with it, and what comes after the last line feed
pub record Cut : Type 0 where
  pub whole : List (List ℕ)
  pub rest : List ℕ

-- a character in front that is no line feed belongs to the first line, or to the rest if there is none
unfoldable pub ahead : ℕ → List (List ℕ) → List ℕ → Cut
ahead b [] r = record { whole = []; rest = b ∷ r }
ahead b (l ∷ ls) r = record { whole = (b ∷ l) ∷ ls; rest = r }

unfoldable pub cut : List ℕ → Cut
cut [] = record { whole = []; rest = [] }
cut (b ∷ bs) = pick (eqb b 10) (record { whole = (b ∷ []) ∷ (cut bs).whole; rest = (cut bs).rest }) (ahead b (cut bs).whole (cut bs).rest)

-- bytes after the last line feed are one more line
abbrev pub last_line : List ℕ → List (List ℕ)
last_line [] = []
last_line (b ∷ bs) = (b ∷ bs) ∷ []

abbrev pub lines_of : List ℕ → List (List ℕ)
lines_of input = (cut input).whole ++ last_line (cut input).rest
