use mathlib.Core.Path.{◌≡◌}
use Prim.Native.Nat.{◌+◌, ◌*◌}
use lib.ListN.{take}
use Rattle.bits.specs.Part.{span, splice}
use Rattle.state.specs.Layout.{joined, block_lists_at}
use Rattle.sessions.proofs.gathered.gather.Given as goal

abbrev pub invariant-loop-j : goal.invariant-loop-j
invariant-loop-j l = l.all ≡ splice l.initial.all 0 (take l.n (joined l.state (span l.state (block_lists_at + l.i * 9) l.j)))
