use Rattle.dsdl_text.specs.Names.{dotted_from}
use mathlib.Core.Bool.{true}
use lib.ListN.{drop}
use mathlib.Core.Path.{◌≡◌}
use Rattle.dsdl_text.proofs.name.is_dotted.Given as goal

abbrev pub invariant-loop-c : goal.invariant-loop-c
invariant-loop-c l = dotted_from l.begins (drop l.c-index l.s) ≡ dotted_from true l.s
