use Rattle.std.proofs.Common.{◌≡◌, true, ◌≤◌}
use Rattle.state.specs.Sound.{sound_state}
use Rattle.log_program.proofs.run.Given as goal

abbrev pub invariant-loop : goal.invariant-loop
invariant-loop l = (sound_state l.state ≡ true) × (l.s.kept ≤ 48)
