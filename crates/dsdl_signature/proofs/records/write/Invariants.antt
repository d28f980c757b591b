use Rattle.dsdl_signature.specs.inside.Written.{joined, record_at}
use Rattle.bits.specs.Part.{splice}
use lib.ListN.{length}
use mathlib.Core.Path.{◌≡◌}
use Rattle.dsdl_signature.proofs.records.write.Given as goal

abbrev pub invariant-loop-i : goal.invariant-loop-i
invariant-loop-i l = (length l.records ≡ length l.initial.records) × (l.records ≡ splice l.initial.records 0 (joined (record_at l.ends l.signatures) 0 l.i))
