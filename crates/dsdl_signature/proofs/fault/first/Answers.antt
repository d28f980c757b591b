-- `fault::first` meets its contract: what is left decides.
use Rattle.dsdl_signature.proofs.Faults.{passes, stops, ends}
use Rattle.dsdl_given.specs.Given.{fault_from}
use Rattle.dsdl_given.specs.inside.Places.{definition_at, given}
use Rattle.dsdl.specs.Definition.{verdict}
use native.Mathlib.Nat.{sub-zero}
use native.Mathlib.Omega.{arith}
use Prim.Native.Nat.{ℕ}
use mathlib.Core.Path.{sym, ap, ap₂, ◌∙◌}
use Rattle.dsdl_signature.proofs.fault.first.Goals as goal

pub loop-i-init : goal.loop-i-init
loop-i-init c = let a = c.args in ap (λ (k : ℕ). fault_from 1 (given a.source.now a.bounds k)) (sub-zero a.n)

pub name-requires : goal.name-requires
name-requires c = c.requires.holds c.loop-i.i c.loop-i-test.true

pub text-requires : goal.text-requires
text-requires c = c.requires.holds c.loop-i.i c.loop-i-test.true

pub judge-requires : goal.judge-requires
judge-requires c = c.text.ensures.1

pub loop-i-preserved : goal.loop-i-preserved
loop-i-preserved c =
    let a = c.args in
    sym (passes (definition_at a.source.now a.bounds) c.loop-i.i a.n (omega arith) (c.in_default.ensures ∙ ap₂ verdict c.name.ensures c.text.ensures.0)) ∙ c.loop-i.invariant

pub returns-in-Err : goal.returns-in-Err
returns-in-Err c =
    let a = c.args in
    stops (definition_at a.source.now a.bounds) c.loop-i.i a.n c.in-Err.line.0 (omega arith) (c.in-Err.ensures ∙ ap₂ verdict c.name.ensures c.text.ensures.0) ∙ c.loop-i.invariant

pub returns : goal.returns
returns c =
    let a = c.args in
    ends (definition_at a.source.now a.bounds) c.loop-i.i a.n c.loop-i-test.false ∙ c.loop-i.invariant
