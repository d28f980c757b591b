-- RULES 16.10: setting an allocator up.
use Rattle.std.specs.Prelude.{List, ◌++◌, ℕ, ltb, length, drop, replicate, Ok, Err}
use Rattle.allocator_table.specs.Layout.{size}
use Rattle.answers.specs.Setup.{Outcome}
use Rattle.answers.specs.declared.SetupError.TheVariants.{Short}
use Rattle.rules.specs.Tests.{pick}

pub record SetUp : Type 0 where
  pub answer : Outcome
  pub state : List ℕ

abbrev pub set_up : Outcome → List ℕ → SetUp
set_up a m = record { answer = a; state = m }

-- a buffer that is too short stays as it was; bytes past the layout stay
unfoldable pub after_setup : List ℕ → SetUp
after_setup m = pick (ltb (length m) size) (set_up (Err Short) m) (set_up (Ok tt) (replicate size 0 ++ drop size m))
