-- `names::is_among` meets its contract.
use Rattle.dsdl.proofs.NamePlaces.{among_first, among_next, among_none}
use Rattle.dsdl_text.proofs.Choices.{by}
use Rattle.dsdl.specs.Definition.{is_among}
use Rattle.dsdl.specs.inside.Names.{names_at}
use native.Mathlib.Omega.{arith}
use Prim.Native.Nat.{ℕ, suc, ◌-◌}
use mathlib.Core.Path.{◌≡◌, refl, sym, ap, ◌∙◌}
use Rattle.dsdl.proofs.names.is_among.Goals as goal

pub loop-i-init : goal.loop-i-init
loop-i-init c = (omega arith, refl)

pub returns-then-is_at : goal.returns-then-is_at
returns-then-is_at c =
    let a = c.args in
    let e : suc (c.loop-i.i - 1) ≡ c.loop-i.i = omega arith in
    sym (sym c.loop-i.invariant.1 ∙ (ap (λ (j : ℕ). is_among a.x.now (names_at a.t.now a.seen.now j)) (sym e)
    ∙ among_first a.t.now a.seen.now (c.loop-i.i - 1) a.x.now (by c.is_at.ensures c.if-is_at.true)))

pub loop-i-preserved : goal.loop-i-preserved
loop-i-preserved c =
    let a = c.args in
    let e : suc (c.loop-i.i - 1) ≡ c.loop-i.i = omega arith in (
      omega arith,
      sym (among_next a.t.now a.seen.now (c.loop-i.i - 1) a.x.now (by c.is_at.ensures c.if-is_at.false))
          ∙ (ap (λ (j : ℕ). is_among a.x.now (names_at a.t.now a.seen.now j)) e ∙ c.loop-i.invariant.1),
    )

pub returns : goal.returns
returns c =
    let a = c.args in
    let z : c.loop-i.i ≡ 0 = omega arith in
    sym (sym c.loop-i.invariant.1 ∙ (ap (λ (j : ℕ). is_among a.x.now (names_at a.t.now a.seen.now j)) z ∙ among_none a.t.now a.seen.now a.x.now))
