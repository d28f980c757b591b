-- RULES 17.1: the lines of a text, without their ends.
use Rattle.std.specs.Prelude.{Bool, false, cond, ◌&&◌, List, [], ◌∷◌, ℕ, eqb}
use Rattle.dsdl_text.specs.declared.class.Class.TheVariants.{Inline}
use Rattle.dsdl_text.specs.Class.{is_in}

-- a character more at the front of the first line
abbrev pub on_first : ℕ → List (List ℕ) → List (List ℕ)
on_first c [] = []
on_first c (l ∷ ls) = (c ∷ l) ∷ ls

-- the lines that c and what follows it come to; a line feed after a carriage return ends no line of its own
abbrev pub with_front : Bool → ℕ → List (List ℕ) → List (List ℕ)
with_front after_return c ls = cond (after_return && eqb c 10) ls (cond (is_in Inline c) (on_first c ls) ([] ∷ ls))

unfoldable pub lines_after : Bool → List ℕ → List (List ℕ)
lines_after after_return [] = [] ∷ []
lines_after after_return (c ∷ cs) = with_front after_return c (lines_after (eqb c 13) cs)

abbrev pub lines : List ℕ → List (List ℕ)
lines t = lines_after false t
