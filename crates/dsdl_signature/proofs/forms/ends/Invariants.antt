use Rattle.dsdl_signature.specs.inside.Written.{Ends}
use lib.ListN.{length, get_or}
use Prim.Native.Nat.{◌*◌, ◌^◌, ◌≤◌}
use mathlib.Core.Path.{◌≡◌}
use Rattle.dsdl_signature.proofs.forms.ends.Given as goal

abbrev pub invariant-loop-i : goal.invariant-loop-i
invariant-loop-i l = (length l.ends ≡ 9) × (l.at ≤ l.i * 2 ^ 19) × (l.at ≡ get_or l.ends l.i 0) × Ends l.source l.bounds l.ends l.i
