-- `raw_command::numbers` meets its contract. The invariant: the first i patterns are converted.
use native.Mathlib.Omega.{arith}
use lib.Dec.{lit≤}
use lib.IntN.{pos}
use lib.ListN.{get_or}
use Rattle.shape.specs.Signed.{signed_of}
use Rattle.shape.proofs.CastFacts.{signed-held}
use Rattle.equipment_esc.proofs.RawCommandFacts.{mapped, all-mapped, below_at}
use borrow.Author.Rules.{rules}
use Rattle.equipment_esc.proofs.raw_command.numbers.Goals as goal

pub value-v-requires : goal.value-v-requires
value-v-requires c =
    let b = below_at 16384 c.args.patterns c.loop-i.i (omega arith) c.requires in
    ((lit≤ tt, lit≤ tt), omega arith)

pub loop-i-preserved : goal.loop-i-preserved
loop-i-preserved c =
    let p = c.args.patterns in
    let i = c.loop-i.i in
    mapped (signed_of 14) p 0 (pos 0) c.loop-i.cmd i _ (omega arith) (omega arith) c.loop-i.invariant (signed-held 14 (get_or p i 0) (lit≤ tt) (lit≤ tt) (below_at 16384 p i (omega arith) c.requires) c.value-v.result c.value-v.ensures)

pub returns : goal.returns
returns c =
    all-mapped (signed_of 14) c.args.patterns (pos 0) c.loop-i.cmd c.loop-i.i (search rules) (omega arith) c.loop-i.invariant
