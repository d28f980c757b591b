-- RULES 19.4: the limit of the judge. src/limits.rt has the same number for the code.
use Rattle.std.specs.Prelude.{ℕ}

-- streams with a named source in a capture, at most
abbrev pub streams_max : ℕ
streams_max = 64
