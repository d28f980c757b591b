-- `raw_command::patterns` meets its contract. The invariant: the patterns of the first i stand in front.
use mathlib.Core.Path.{◌≡◌, ap, ◌∙◌}
use mathlib.Core.List.{◌++◌, map}
use Prim.Native.Nat.{ℕ, ◌-◌}
use native.Mathlib.Omega.{arith}
use lib.Dec.{lit≤}
use lib.IntN.{ℤ, pos}
use lib.ListN.{take, get_or, replicate}
use Rattle.equipment_esc.specs.RawCommand.{pattern_of}
use Rattle.equipment_esc.proofs.RawCommandFacts.{mapped, held}
use Rattle.equipment_esc.proofs.raw_command.patterns.Goals as goal

pub signed-requires : goal.signed-requires
signed-requires c = (lit≤ tt, lit≤ tt)

pub loop-i-preserved : goal.loop-i-preserved
loop-i-preserved c =
    let z = get_or c.args.cmd c.loop-i.i (pos 0) in
    mapped pattern_of c.args.cmd (pos 0) 0 c.loop-i.p c.loop-i.i c.signed.result (omega arith) (omega arith) c.loop-i.invariant (c.signed.ensures ∙ ap (λ (y : ℤ). pattern_of y) (held z c.v-1.given))

pub returns : goal.returns
returns c =
    let e : c.loop-i.i ≡ c.args.n = omega arith in
    c.loop-i.invariant ∙ ap (λ (k : ℕ). map pattern_of (take k c.args.cmd) ++ replicate (20 - k) 0) e
