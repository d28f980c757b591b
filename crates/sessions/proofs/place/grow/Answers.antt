-- `place::grow` meets its contract: with the blocks that the session has, or with one more.
use Prim.Native.Nat.{◌≤◌, ◌<◌, ◌^◌}
use native.Mathlib.Omega.{arith}
use Rattle.bits.proofs.Octets.{octets-all}
use Rattle.rules.specs.Blocks.{need}
use Rattle.state.specs.Layout.{count_at}
use Rattle.sessions.proofs.Grow.{kept-fill, kept-done, more-claims, more-fill, more-done}
use borrow.Author.Rules.{rules}
use Rattle.sessions.proofs.place.grow.Goals as goal
use Rattle.sessions.proofs.place.grow.Goals.{Start, Else-held-needed, Then-held-needed}

-- the block is needed, or not
more : (c : Then-held-needed) → need (count_at c.args.state.now c.args.i) < need c.args.c.len
more c = omega (arith, c.if-held-needed.true, c.needed-held.ensures, c.needed.ensures, c.requires.len)

enough : (c : Else-held-needed) → need c.args.c.len ≤ need (count_at c.args.state.now c.args.i)
enough c = omega (arith, c.if-held-needed.false, c.needed-held.ensures, c.needed.ensures, c.requires.len)

time-lt : (c : Start) → c.args.c.time < 2 ^ 64
time-lt c = search rules

pub claim-requires : goal.claim-requires
claim-requires c =
    let a = c.args in
    let g = c.requires in
    let o = octets-all a.state.now (search rules) in
    let k = more-claims a.state.now a.i a.c a.p.now o g (time-lt (goal.at.claim-requires c).Start) (more (goal.at.claim-requires c).Then-held-needed) in
    ((g.place, g.ready.long), (omega (arith, k.0, c.needed-held.ensures, g.len), k.1))

pub fill-requires : goal.fill-requires
fill-requires c =
    let a = c.args in
    let g = c.requires in
    let o = octets-all a.state.now (search rules) in
    (more-fill a.state.now a.i a.c a.p.now o g (time-lt (goal.at.fill-requires c).Start) (more (goal.at.fill-requires c).Then-held-needed) _ _ (omega (arith, g.len)) c.needed-held.ensures _ c.claim.ensures, (g.few, (g.expected, g.follows)))

pub returns-then-held-needed : goal.returns-then-held-needed
returns-then-held-needed c =
    let a = c.args in
    let g = c.requires in
    let o = octets-all a.state.now (search rules) in
    more-done a.state.now a.i a.c a.p.now o g (time-lt (goal.at.returns-then-held-needed c).Start) (more (goal.at.returns-then-held-needed c).Then-held-needed) _ _ (omega (arith, g.len)) c.needed-held.ensures _ _ c.claim.ensures c.fill.ensures

pub fill-requires-2 : goal.fill-requires-2
fill-requires-2 c =
    let a = c.args in
    let g = c.requires in
    let o = octets-all a.state.now (search rules) in
    (kept-fill a.state.now a.i a.c a.p.now o g (time-lt (goal.at.fill-requires-2 c).Start) (enough (goal.at.fill-requires-2 c).Else-held-needed) _ (omega (arith, g.len)), (g.few, (g.expected, g.follows)))

pub returns : goal.returns
returns c =
    let a = c.args in
    let g = c.requires in
    let o = octets-all a.state.now (search rules) in
    kept-done a.state.now a.i a.c a.p.now o g (time-lt (goal.at.returns c).Start) (enough (goal.at.returns c).Else-held-needed) _ (omega (arith, g.len)) _ c.fill-2.ensures
