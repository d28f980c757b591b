use Rattle.digits.specs.Digits.{digits}
use Rattle.bits.specs.Part.{splice}
use mathlib.Core.Path.{◌≡◌}
use Rattle.digits.proofs.put_hex.Given as goal

abbrev pub invariant-loop-i : goal.invariant-loop-i
invariant-loop-i l = splice l.out l.at (digits 16 l.i l.x) ≡ splice l.initial.out l.at (digits 16 l.w l.v)
