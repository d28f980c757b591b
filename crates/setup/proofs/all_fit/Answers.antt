-- `all_fit` meets its contract: what is left decides.
use mathlib.Core.Path.{◌≡◌, refl, sym, ap, ◌∙◌}
use mathlib.Core.Bool.{true, false}
use Prim.Native.Nat.{ℕ}
use native.Mathlib.Nat.{sub-zero}
use native.Mathlib.Omega.{arith}
use Rattle.rules.specs.Setup.{type_fits, all_fit}
use Rattle.setup.specs.Setup.{record_at}
use Rattle.setup.proofs.Records.{tab-end, same-type, fit-turn}
use Rattle.bits.specs.Tabulate.{tabulate}
use Rattle.setup.proofs.all_fit.Goals as goal
use Rattle.setup.proofs.all_fit.Goals.{After-type_fits}

-- what the test gave is what the rules ask
fits : (q : After-type_fits) → let a = record_at q.args.records.now q.loop-j.j in
    type_fits a.kind a.type ≡ q.type_fits.result
fits q =
    same-type (record_at q.args.records.now q.loop-j.j) q.key.result q.key.ensures ∙ sym q.type_fits.ensures

pub loop-j-init : goal.loop-j-init
loop-j-init c =
    let a = c.args in
    ap (λ (k : ℕ). all_fit (tabulate (record_at a.records.now) 0 k)) (sub-zero a.n)

pub key-requires : goal.key-requires
key-requires c = omega arith

pub key_is_new-requires : goal.key_is_new-requires
key_is_new-requires c = omega arith

pub loop-j-preserved : goal.loop-j-preserved
loop-j-preserved c =
    let a = c.args in
    let f = record_at a.records.now in
    sym (fit-turn f c.loop-j.j a.n (omega arith) true true (fits (goal.at.loop-j-preserved c).After-type_fits ∙ c.if-not-type_fits.false) (sym c.key_is_new.ensures ∙ c.if-not-key_is_new.false)) ∙ c.loop-j.invariant

pub returns-then-not-key_is_new : goal.returns-then-not-key_is_new
returns-then-not-key_is_new c =
    let a = c.args in
    let f = record_at a.records.now in
    sym (fit-turn f c.loop-j.j a.n (omega arith) true false (fits (goal.at.returns-then-not-key_is_new c).After-type_fits ∙ c.if-not-type_fits.false) (sym c.key_is_new.ensures ∙ c.if-not-key_is_new.true)) ∙ c.loop-j.invariant

pub returns-then-not-type_fits : goal.returns-then-not-type_fits
returns-then-not-type_fits c =
    let a = c.args in
    sym (fit-turn (record_at a.records.now) c.loop-j.j a.n (omega arith) false _ (fits (goal.at.returns-then-not-type_fits c).After-type_fits ∙ c.if-not-type_fits.true) refl) ∙ c.loop-j.invariant

pub returns : goal.returns
returns c =
    let a = c.args in
    sym (ap all_fit (tab-end (record_at a.records.now) c.loop-j.j a.n (omega arith))) ∙ c.loop-j.invariant
