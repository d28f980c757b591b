-- `sound::claim` meets its contract. The invariant: the blocks passed were new.
use mathlib.Core.Path.{◌≡◌, sym, ap, ◌∙◌}
use Prim.Native.Nat.{ℕ, ◌+◌, ◌*◌, ◌-◌}
use native.Mathlib.Omega.{arith}
use lib.ListN.{take, drop}
use lib.Seq.{take_all}
use Rattle.sessions.specs.inside.Sound.{claimed, told}
use Rattle.state.specs.Layout.{block_lists_at}
use Rattle.sessions.proofs.Claims.{claim-none, claim-more, claim-fault, new-small}
use Rattle.sessions.proofs.sound.claim.Goals as goal

pub loop-b-init : goal.loop-b-init
loop-b-init c = claim-none c.args.seen

pub include-all-requires : goal.include-all-requires
include-all-requires c = new-small _ _ (sym c.is_new.ensures ∙ c.if-not-is_new.false)

pub loop-b-preserved : goal.loop-b-preserved
loop-b-preserved c =
    claim-more _ c.loop-b.b-index c.args.seen c.loop-b.all c.loop-b-test.true c.loop-b.invariant _ (sym c.is_new.ensures ∙ c.if-not-is_new.false) c.include-all.ensures

pub returns-then-not-is_new : goal.returns-then-not-is_new
returns-then-not-is_new c =
    let at : ℕ = block_lists_at + c.args.i * 9 in
    let e : at + c.args.n - at ≡ c.args.n = omega arith in
    claim-fault _ c.loop-b.b-index c.args.seen c.loop-b.all c.loop-b-test.true c.loop-b.invariant (sym c.is_new.ensures ∙ c.if-not-is_new.true)
    ∙ ap (λ (k : ℕ). told (claimed c.args.seen (take k (drop at c.args.state.now)))) e

pub returns : goal.returns
returns c =
    let at : ℕ = block_lists_at + c.args.i * 9 in
    let e : at + c.args.n - at ≡ c.args.n = omega arith in
    sym (ap told (ap (claimed c.args.seen) (sym (take_all _ _ c.loop-b-test.false ∙ ap (λ (k : ℕ). take k (drop at c.args.state.now)) e)) ∙ c.loop-b.invariant))
