-- RULES 12.2: data bytes as the code tells them.
use Rattle.std.specs.Prelude.{List, ℕ, take, Some, None}
use Rattle.std.specs.Prelude as std
use Rattle.std.proofs.Math.Option.{Option, none, some}

-- the first k of those that were read
abbrev pub bytes_in : std.Option (List ℕ) → ℕ → Option (List ℕ)
bytes_in None k = none
bytes_in (Some bytes) k = some (take k bytes)
