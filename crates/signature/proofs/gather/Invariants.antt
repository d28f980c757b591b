use Rattle.std.proofs.Common.{◌≤◌, length}
use Rattle.signature.proofs.gather.Given as goal

abbrev pub invariant-loop : goal.invariant-loop
invariant-loop l = l.n ≤ length l.input
