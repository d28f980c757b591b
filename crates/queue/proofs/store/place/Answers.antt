-- `store::place` meets its contract: the places passed go before the ID.
use mathlib.Core.Path.{◌≡◌, refl, sym, ap, ◌∙◌}
use Prim.Native.Nat.{◌+◌, ◌-◌}
use native.Mathlib.Omega.{arith}
use Rattle.queue.specs.Layout.{queued}
use Rattle.queue.proofs.Order.{behind-here, behind-next, behind-none}
use Rattle.queue.proofs.store.place.Goals as goal

pub loop-p-init : goal.loop-p-init
loop-p-init c = (omega arith, refl)

pub id-requires : goal.id-requires
id-requires c = omega arith

pub returns-then-id : goal.returns-then-id
returns-then-id c =
    let a = c.args in
    let i = c.id in
    let e : c.loop-p.p - 1 + 1 ≡ c.loop-p.p = omega arith in
    (omega arith, ap (queued a.queue.now) e ∙ sym (behind-here a.queue.now a.id c.loop-p.p (c.loop-p.p - 1) (omega arith) i.result i.ensures c.if-id.true) ∙ c.loop-p.invariant.1)

pub loop-p-preserved : goal.loop-p-preserved
loop-p-preserved c =
    let a = c.args in
    let i = c.id in
    (omega arith, sym (behind-next a.queue.now a.id c.loop-p.p (c.loop-p.p - 1) (omega arith) i.result i.ensures c.if-id.false) ∙ c.loop-p.invariant.1)

pub returns : goal.returns
returns c =
    let a = c.args in
    let e : 0 ≡ c.loop-p.p = omega arith in
    (omega arith, ap (queued a.queue.now) e ∙ sym (behind-none a.queue.now a.id c.loop-p.p (omega arith)) ∙ c.loop-p.invariant.1)
