-- RULES 13.3: every answer fits the word of the C entry. `laws.rt` has a function for it, whose contract it is.
use Rattle.std.specs.Prelude.{List, ℕ, suc, ◌≤◌}
use Rattle.dsdl_given.specs.Given.{definition_max}
use Rattle.dsdl.specs.Definition.{text_max}
use Rattle.dsdl_signature.specs.Call.{Answer, signatures, number_of, definition_in, line_in}

pub record Range (a : Answer) : Type 0 where
  pub number : number_of a ≤ 43
  pub definition : definition_in a ≤ definition_max
  pub line : line_in a ≤ suc text_max

abbrev pub AnswersInRange : Type 0
AnswersInRange = (source lengths out records : List ℕ) → Range (signatures source lengths out records).answer
