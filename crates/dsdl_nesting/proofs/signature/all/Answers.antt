-- `signature::all` meets its contract.
use Rattle.dsdl_nesting.proofs.Levels.{four-signatures}
use Rattle.dsdl_given.specs.inside.Places.{definition_at}
use native.Mathlib.Omega.{arith}
use Rattle.dsdl_nesting.proofs.signature.all.Goals as goal

pub returns : goal.returns
returns c =
    four-signatures (definition_at c.args.source.now c.args.bounds) c.args.n (omega (arith, c.requires.0.few)) c.all-sets.result c.all-sets.ensures.row c.next-one.result
    c.next-two.result c.next-three.result c.next-one.ensures c.next-two.ensures c.next-three.ensures c.args.hashes c.next-first.result c.next-second.result c.next-third.result
    c.next.result c.requires.1.0 c.requires.1.1 c.next-first.ensures c.next-second.ensures c.next-third.ensures c.next.ensures
