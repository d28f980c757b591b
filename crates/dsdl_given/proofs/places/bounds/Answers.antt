-- `places::bounds` meets its contract.
use Rattle.dsdl_given.proofs.Located.{one_more}
use Rattle.dsdl_given.specs.Given.{length_at}
use native.Mathlib.Omega.{arith}
use lib.Seq.{get_or-set_same}
use lib.ListN.{length, length-set}
use Prim.Native.Nat.{◌+◌, ◌<◌}
use mathlib.Core.Path.{refl, sym, ◌∙◌}
use Rattle.dsdl_given.proofs.places.bounds.Goals as goal

pub loop-k-init : goal.loop-k-init
loop-k-init c = (refl, omega arith, refl, record { first = refl; next = λ j h. absurd (omega arith) })

pub loop-k-preserved : goal.loop-k-preserved
loop-k-preserved c =
    let i = c.loop-k.invariant in
    let e = c.loop-k.ends in
    let r : c.loop-k.k + 1 < length e = omega arith in
    let x = c.length-at.result in (
      length-set e (c.loop-k.k + 1) (c.loop-k.at + x) ∙ i.0,
      omega arith,
      sym (get_or-set_same e (c.loop-k.k + 1) (c.loop-k.at + x) 0 r),
      one_more (length_at c.args.lengths.now) e c.loop-k.at c.loop-k.k x r i.3 i.2 c.length-at.ensures.0,
    )

pub returns : goal.returns
returns c = let b = c.loop-k.invariant.3 in record { first = b.first; next = λ j h. b.next j (omega arith) }
