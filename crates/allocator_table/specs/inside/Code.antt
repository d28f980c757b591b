-- For RULES 16.1, 16.7: numbers, and what may be none, as the code has them.
use Rattle.std.proofs.Math.Option.{Option, none, some}
use Rattle.std.specs.Prelude.{None, Some, ℕ, ◌+◌, ◌*◌, ◌^◌}
use Rattle.std.specs.declared.option.Option as rust
use Rattle.allocator_table.specs.declared.entry.UniqueId.{UniqueId}

-- a unique ID in two halves
abbrev pub number_of : UniqueId → ℕ
number_of u = u.low + 2 ^ 64 * u.high

-- a node ID, if there is one
abbrev pub optional : Option ℕ → rust.Option ℕ
optional none = None
optional (some n) = Some n
