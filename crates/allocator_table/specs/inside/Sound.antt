-- For RULES 16.10: the marks of the node IDs that a walk has seen.
use Rattle.std.specs.Prelude.{◌≡◌, List, ℕ, ◌<◌, length, get_or}
use mir.Val.{bool_byte}
use Rattle.allocator_table.specs.Table.{Entry, holds}

pub record Seen (marks : List ℕ) (t : List Entry) : Type 0 where
  pub long : length marks ≡ 128
  pub marked : (n : ℕ) → n < 128 → get_or marks n 0 ≡ bool_byte (holds n t)
