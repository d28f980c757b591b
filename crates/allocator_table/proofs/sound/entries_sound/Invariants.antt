use mathlib.Core.Path.{◌≡◌}
use mathlib.Core.Bool.{true}
use Rattle.allocator_table.specs.Table.{sound}
use Rattle.allocator_table.specs.inside.Sound.{Seen}
use Rattle.allocator_table.proofs.Walk.{rest}
use Rattle.allocator_table.proofs.sound.entries_sound.Given as goal

abbrev pub invariant-loop-i : goal.invariant-loop-i
invariant-loop-i l = (sound (rest l.state l.i l.n) ≡ true) × Seen l.seen (rest l.state l.i l.n)
