use Rattle.digits.specs.Digits.{words}
use Rattle.digits.specs.inside.Text.{Puts}
use lib.ListN.{take}
use Prim.Native.Nat.{◌+◌, ◌*◌, ◌≤◌}
use Rattle.digits.proofs.put_words.Given as goal

abbrev pub invariant-loop-v : goal.invariant-loop-v
invariant-loop-v l = (l.p ≤ l.at + l.v-index * 21) × Puts l.initial.out l.out l.at l.p (words (take l.v-index l.vs))
