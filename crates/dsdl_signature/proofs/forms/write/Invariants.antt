use Rattle.dsdl_nesting.specs.inside.Kept.{Hashes}
use Rattle.dsdl_signature.specs.inside.Written.{joined, form_at}
use Rattle.bits.specs.Part.{splice}
use lib.ListN.{length}
use mathlib.Core.Path.{◌≡◌}
use Rattle.dsdl_signature.proofs.forms.write.Given as goal

abbrev pub invariant-loop-i : goal.invariant-loop-i
invariant-loop-i l = (length l.hashes ≡ 8) × (length l.out ≡ length l.initial.out) × (l.out ≡ splice l.initial.out 0 (joined (form_at l.source l.bounds) 0 l.i)) × Hashes l.source l.bounds l.i l.hashes
