-- `battery_info::are_floats` meets its contract. The invariant: the words before the i-th are floats.
use Prim.Native.Nat.{ℕ, ◌^◌, ◌<◌}
use native.Mathlib.Omega.{arith}
use borrow.Author.Count.{below_more}
use lib.ListN.{get_or}
use Rattle.message_fields.proofs.Floats.{all-floats, no-float}
use Rattle.message_fields.proofs.battery_info.are_floats.Goals as goal

pub loop-i-init : goal.loop-i-init
loop-i-init c = λ k h. absurd (omega arith)

pub returns-then-fields-i-gt4294967295 : goal.returns-then-fields-i-gt4294967295
returns-then-fields-i-gt4294967295 c =
    no-float c.args.fields.now (omega arith) c.loop-i.i (omega arith) (omega arith)

pub loop-i-preserved : goal.loop-i-preserved
loop-i-preserved c =
    below_more (λ (k : ℕ). get_or c.args.fields.now k 0 < 2 ^ 32) c.loop-i.i c.loop-i.invariant (omega arith)

pub returns : goal.returns
returns c =
    all-floats c.args.fields.now (omega arith) (λ k h. c.loop-i.invariant k (omega arith))
