-- `gathered::free_with` meets its contract. The invariant: the blocks passed are in the set.
use mathlib.Core.Path.{◌≡◌, ap, ◌∙◌}
use Prim.Native.Nat.{ℕ, ◌+◌, ◌*◌, ◌-◌}
use native.Mathlib.Omega.{arith}
use lib.ListN.{take, drop}
use lib.Seq.{take_all}
use Rattle.blocks.specs.inside.Bit.{including_all}
use Rattle.state.specs.Layout.{free_of, block_lists_at}
use Rattle.state.specs.inside.Ready.{Small}
use Rattle.sessions.proofs.Stored.{one_more, small-in}
use Rattle.sessions.proofs.gathered.free_with.Goals as goal

pub loop-b-init : goal.loop-b-init
unfolding including_all
loop-b-init c = c.free-all.ensures

pub include-all-requires : goal.include-all-requires
include-all-requires c =
    let at : ℕ = block_lists_at + c.args.i * 9 in
    let e : at + c.args.n - at ≡ c.args.n = omega arith in
    let s : Small (take (at + c.args.n - at) (drop at c.args.state.now)) = rw e c.requires.1.1 in
    small-in _ c.loop-b.b-index c.loop-b-test.true s

pub loop-b-preserved : goal.loop-b-preserved
loop-b-preserved c = c.include-all.ensures ∙ one_more _ c.loop-b.b-index (free_of c.args.state.now) c.loop-b.all c.loop-b-test.true c.loop-b.invariant

pub returns : goal.returns
returns c =
    let at : ℕ = block_lists_at + c.args.i * 9 in
    let e : at + c.args.n - at ≡ c.args.n = omega arith in
    c.loop-b.invariant ∙ ap (including_all (free_of c.args.state.now)) (take_all _ _ c.loop-b-test.false ∙ ap (λ (k : ℕ). take k (drop at c.args.state.now)) e)
