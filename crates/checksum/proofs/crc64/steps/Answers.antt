-- `crc64::steps` meets its contract: the bytes still to come, from the register so far, give what all of them give from the start.
use mathlib.Core.Path.{sym, ◌∙◌}
use native.Mathlib.Omega.{arith}
use Rattle.checksum.specs.Signature.{we}
use Rattle.checksum.proofs.Linear.{over-turn, over_done}
use Rattle.checksum.proofs.crc64.steps.Goals as goal

pub loop-b-preserved : goal.loop-b-preserved
loop-b-preserved c =
    over-turn we c.loop-b.r c.step-r.result c.loop-b.b-index c.args.s.now (omega arith) c.step-r.ensures ∙ c.loop-b.invariant

pub returns : goal.returns
returns c =
    sym (over_done we c.loop-b.r c.loop-b.b-index c.args.s.now (omega arith)) ∙ c.loop-b.invariant
