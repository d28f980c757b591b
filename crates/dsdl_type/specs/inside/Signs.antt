-- What the word of an initializer comes to, by the sign before it.
use Rattle.std.specs.Prelude.{Bool, false, true, List, ℕ, Option, None, Some}
use Rattle.std.proofs.Math.Option as maybe
use Rattle.dsdl_number.specs.Number.{Number, number, truth, or_else}

-- a minus is true
abbrev pub value_behind : Option Bool → List ℕ → maybe.Option Number
value_behind None w = or_else (truth w) (number false false w)
value_behind (Some negative) w = number true negative w
