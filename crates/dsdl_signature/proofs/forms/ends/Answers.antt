-- `forms::ends` meets its contract.
use Rattle.dsdl.specs.Form.{form_of}
use Rattle.dsdl_given.proofs.Located.{one_more}
use Rattle.dsdl_signature.specs.inside.Written.{form_at}
use native.Mathlib.Omega.{arith}
use lib.Seq.{get_or-set_same}
use lib.ListN.{length, length-set}
use Prim.Native.Nat.{ℕ, ◌+◌, ◌<◌}
use mathlib.Core.Path.{refl, sym, ap, ap₂, ◌∙◌}
use Rattle.dsdl_signature.proofs.forms.ends.Goals as goal

pub loop-i-init : goal.loop-i-init
loop-i-init c = (refl, omega arith, refl, record { first = refl; next = λ j h. absurd (omega arith) })

pub name-requires : goal.name-requires
name-requires c = c.requires.0.holds c.loop-i.i c.loop-i-test.true

pub text-requires : goal.text-requires
text-requires c = c.requires.0.holds c.loop-i.i c.loop-i-test.true

pub length-at-requires : goal.length-at-requires
length-at-requires c =
    (omega (arith, ap length c.name.ensures, c.requires.1 c.loop-i.i c.loop-i-test.true), c.text.ensures.1)

pub loop-i-preserved : goal.loop-i-preserved
loop-i-preserved c =
    let i = c.loop-i.invariant in
    let e = c.loop-i.ends in
    let r : c.loop-i.i + 1 < length e = omega (arith, c.requires.0.few) in
    let x = c.length-at.result in (
      length-set e (c.loop-i.i + 1) (c.loop-i.at + x) ∙ i.0,
      omega arith,
      sym (get_or-set_same e (c.loop-i.i + 1) (c.loop-i.at + x) 0 r),
      one_more (λ (j : ℕ). length (form_at c.args.source.now c.args.bounds j)) e c.loop-i.at c.loop-i.i x r i.3 i.2
          (c.length-at.ensures.0 ∙ ap length (ap₂ form_of c.name.ensures c.text.ensures.0)),
    )

pub returns : goal.returns
returns c = let b = c.loop-i.invariant.3 in record { first = b.first; next = λ j h. b.next j (omega arith) }
