-- RULES 8.4: setting a map up.
use Rattle.std.specs.Prelude.{List, ◌++◌, ℕ, ltb, length, drop, replicate, Ok, Err}
use Rattle.id_map.specs.Layout.{size}
use Rattle.answers.specs.Setup.{Outcome}
use Rattle.answers.specs.declared.SetupError.TheVariants.{Short}
use Rattle.rules.specs.Tests.{pick}

pub record Result : Type 0 where
  pub answer : Outcome
  pub map : List ℕ

abbrev pub returned : Outcome → List ℕ → Result
returned a m = record { answer = a; map = m }

-- a buffer that is too short stays as it was; bytes past the layout stay
unfoldable pub after_setup : List ℕ → Result
after_setup m = pick (ltb (length m) size) (returned (Err Short) m) (returned (Ok tt) (replicate size 0 ++ drop size m))
