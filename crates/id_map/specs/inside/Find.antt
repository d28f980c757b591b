-- RULES 8.2: the number that a search for a place answers.
use Rattle.std.proofs.Math.Option.{Option, none, some}
use Rattle.std.specs.Prelude.{ℕ}
use Rattle.rules.specs.Limits.{entries_max}

-- a place, or 32 for none
abbrev pub place_or32 : Option ℕ → ℕ
place_or32 none = entries_max
place_or32 (some i) = i
