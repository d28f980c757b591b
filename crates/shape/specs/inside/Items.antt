-- RULES 9.4: what the functions of `items` answer for a list at the end.
use Rattle.std.specs.Prelude.{Bool, true, false}
use Rattle.shape.specs.Answer.{Answer, refused, got}

-- what bits left over after the last item are refused for: whether they are 8 or more, whether they are zero
abbrev pub refusal_of : Bool → Bool → Answer (Unit {0})
refusal_of true zero = refused 16
refusal_of false false = refused 25
refusal_of false true = got tt
