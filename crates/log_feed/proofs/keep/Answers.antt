-- `keep` meets its contract.
use mathlib.Core.Path.{sym, ◌∙◌}
use Prim.Native.Nat.{◌-◌}
use native.Mathlib.Omega.{arith}
use lib.ListN.{drop, length-drop}
use lib.Seq.{take_all, take-take, length-take-le}
use Rattle.bits.specs.Part.{span}
use Rattle.log_feed.proofs.keep.Goals as goal

pub returns-then-to-from-lt48 : goal.returns-then-to-from-lt48
returns-then-to-from-lt48 c =
    let a = c.args in
    let b = a.block.now in
    let n = a.to - a.from in
    let l = length-take-le n (drop a.from b) (omega (arith, c.requires.0, c.requires.1, length-drop a.from b)) in (
      c.moved.ensures.0 ∙ sym (take_all 48 (span b a.from n) (omega (arith, l, c.if-to-from-lt48.true))),
      omega (arith, c.moved.ensures.1, c.if-to-from-lt48.true),
    )

pub returns : goal.returns
returns c =
    let a = c.args in (
      c.moved-2.ensures.0 ∙ sym (take-take 48 (a.to - a.from) (drop a.from a.block.now) (omega (arith, c.if-to-from-lt48.false))),
      omega (arith, c.moved-2.ensures.1),
    )
