-- `value::write_content` meets its contract: the fields of each case.
use mathlib.Core.Path.{sym, subst, ap, ◌∙◌}
use Prim.Native.Nat.{◌*◌}
use native.Mathlib.Omega.{arith}
use lib.Dec.{lit≤}
use lib.ListN.{length}
use Rattle.bits.specs.Order.{store}
use Rattle.bits.proofs.Octets.{octets-all}
use Rattle.shape.proofs.ItemFacts.{store-none}
use Rattle.shape.proofs.CastFacts.{number-given, signed-given}
use Rattle.protocol_param.proofs.WriteFacts.{Held, held}
use Rattle.protocol_param.specs.Value.{size_of}
use Rattle.protocol_param.specs.inside.Value.{content_bits}
use Rattle.protocol_param.specs.declared.value.Value.{Value}
use Rattle.protocol_param.proofs.value.write_content.Goals as goal

pub returns-in-Empty : goal.returns-in-Empty
returns-in-Empty c =
    let a = c.args in
    sym (store-none a.out.now (a.at * 8) (octets-all a.out.now (λ i. omega (arith, c.slice_known-1.given i)))) ∙ ap (λ (x : Value). store a.out.now (a.at * 8) (content_bits x a.text.now)) (sym c.in-Empty.is)

pub write_signed-requires : goal.write_signed-requires
write_signed-requires c =
    let a = c.args in
    (lit≤ tt, (lit≤ tt, (omega arith, omega (arith, ap (λ (x : Value). size_of x (length a.text.now)) c.in-Integer.is))))

pub returns-in-Integer : goal.returns-in-Integer
returns-in-Integer c =
    let a = c.args in
    let e = c.in-Integer.is in
    signed-given a.out.now c.write_signed.new.s (a.at * 8) 64 _ (subst Held e (held a.v c.well_formed.1.1.0)) c.write_signed.ensures ∙ ap (λ (x : Value). store a.out.now (a.at * 8) (content_bits x a.text.now)) (sym e)

pub write-requires : goal.write-requires
write-requires c =
    let a = c.args in
    (lit≤ tt, (omega arith, omega (arith, ap (λ (x : Value). size_of x (length a.text.now)) c.in-Real.is)))

pub returns-in-Real : goal.returns-in-Real
returns-in-Real c =
    let a = c.args in
    c.write.ensures ∙ ap (λ (x : Value). store a.out.now (a.at * 8) (content_bits x a.text.now)) (sym c.in-Real.is)

pub write-requires-in-Boolean : goal.write-requires-in-Boolean
write-requires-in-Boolean c =
    let a = c.args in
    (lit≤ tt, (lit≤ tt, (omega arith, omega (arith, ap (λ (x : Value). size_of x (length a.text.now)) c.in-Boolean.is))))

pub returns-in-Boolean : goal.returns-in-Boolean
returns-in-Boolean c =
    let a = c.args in
    let e = c.in-Boolean.is in
    number-given a.out.now c.write-in-Boolean.new.s (a.at * 8) 8 _ (subst Held e (held a.v c.well_formed.1.1.0)) c.write-in-Boolean.ensures ∙ ap (λ (x : Value). store a.out.now (a.at * 8) (content_bits x a.text.now)) (sym e)

pub write_text-requires : goal.write_text-requires
write_text-requires c =
    let a = c.args in
    (omega arith, omega (arith, ap (λ (x : Value). size_of x (length a.text.now)) c.in-Text.is))

pub returns-in-Text : goal.returns-in-Text
returns-in-Text c =
    let a = c.args in
    c.write_text.ensures ∙ ap (λ (x : Value). store a.out.now (a.at * 8) (content_bits x a.text.now)) (sym c.in-Text.is)

pub returns-in-Unknown : goal.returns-in-Unknown
returns-in-Unknown c =
    let a = c.args in
    sym (store-none a.out.now (a.at * 8) (octets-all a.out.now (λ i. omega (arith, c.slice_known-1.given i)))) ∙ ap (λ (x : Value). store a.out.now (a.at * 8) (content_bits x a.text.now)) (sym c.in-Unknown.is)
