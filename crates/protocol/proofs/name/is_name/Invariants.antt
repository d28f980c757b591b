use mathlib.Core.Path.{◌≡◌}
use lib.ListN.{drop}
use Rattle.protocol.specs.Name.{all_letters}
use Rattle.protocol.proofs.name.is_name.Given as goal

abbrev pub invariant-loop-c : goal.invariant-loop-c
invariant-loop-c l = all_letters (drop l.c-index l.s) ≡ all_letters l.s
