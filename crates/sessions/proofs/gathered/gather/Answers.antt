-- `gathered::gather` meets its contract. The invariant: the bytes of the first j blocks, n at most, are at the front.
use mathlib.Core.Path.{◌≡◌, ap, ◌∙◌}
use Prim.Native.Nat.{ℕ, ◌+◌, ◌*◌, ◌<◌}
use native.Mathlib.Omega.{arith}
use lib.ListN.{get_or, take}
use Rattle.bits.specs.Part.{span, splice}
use Rattle.rules.specs.Blocks.{need}
use Rattle.state.specs.Layout.{joined, block_lists_at}
use Rattle.sessions.proofs.Stored.{gather_none, gather-more, small_one}
use Rattle.sessions.proofs.gathered.gather.Goals as goal
use Rattle.sessions.proofs.gathered.gather.Goals.{In-loop-j}

block : (c : In-loop-j) → get_or c.args.state.now (block_lists_at + c.args.i * 9 + c.loop-j.j) 0 < 64
block c =
    let a = c.args in
    let p = c.requires in
    small_one a.state.now (block_lists_at + a.i * 9) (need a.n) c.loop-j.j (omega arith) (omega (arith, p.0, p.1.0)) p.1.1

pub loop-j-init : goal.loop-j-init
loop-j-init c = gather_none c.args.state.now c.args.n c.args.all.now

pub overflow_cast-from : goal.overflow_cast-from
overflow_cast-from c = omega (arith, block (goal.at.overflow_cast-from c).In-loop-j)

pub overflow_mul-from : goal.overflow_mul-from
overflow_mul-from c = omega (arith, block (goal.at.overflow_mul-from c).In-loop-j)

pub overflow_add-from-in-loop-j : goal.overflow_add-from-in-loop-j
overflow_add-from-in-loop-j c = omega (arith, block (goal.at.overflow_add-from-in-loop-j c).In-loop-j)

pub copy_span-requires : goal.copy_span-requires
copy_span-requires c =
    let k = block (goal.at.copy_span-requires c).In-loop-j in
    (omega (arith, k, c.chunk.ensures.0), omega (arith, c.chunk.ensures.1.0))

pub loop-j-preserved : goal.loop-j-preserved
loop-j-preserved c =
    let a = c.args in
    let p = c.requires in
    let more = gather-more a.state.now (block_lists_at + a.i * 9) a.n c.loop-j.j a.all.now c.loop-j.all _ c.chunk.result p.0.1 (omega (arith, p.0, p.1.0)) p.1.1 (omega (arith, p.1.0)) (omega arith) c.chunk.ensures c.loop-j.invariant c.copy_span.ensures in
    more.1

pub returns : goal.returns
returns c =
    let a = c.args in
    let e : c.loop-j.j ≡ need a.n = omega arith in
    c.loop-j.invariant ∙ ap (λ (j : ℕ). splice a.all.now 0 (take a.n (joined a.state.now (span a.state.now (block_lists_at + a.i * 9) j)))) e
