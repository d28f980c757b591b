-- `count` meets its contract.
use Rattle.digits.proofs.Digits.{count-one, count-more, count-le}
use Rattle.digits.specs.Digits.{count_of}
use native.Mathlib.Omega.{arith}
use Prim.Native.Nat.{ℕ, ◌≤◌, ◌^◌, ◌<◌}
use mathlib.Core.Path.{refl}
use Rattle.digits.proofs.count.Goals as goal

-- a word has at most twenty digits
at-most : (v : ℕ) → v < 2 ^ 64 → count_of v ≤ 20
at-most v h = count-le 19 v (omega arith)

pub loop-x-init : goal.loop-x-init
loop-x-init c = (refl, at-most c.args.v c.ranges.v.fits)

pub loop-x-preserved : goal.loop-x-preserved
loop-x-preserved c = (omega (arith, count-more c.loop-x.x c.loop-x-test.true), c.loop-x.invariant.1)

pub returns : goal.returns
returns c =
    let e = count-one c.loop-x.x c.loop-x-test.false in
    (omega arith, omega arith)
