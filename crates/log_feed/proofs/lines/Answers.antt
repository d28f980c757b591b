-- `lines` meets its contract: each turn replays one line.
use mathlib.Core.Path.{refl, ◌∙◌}
use native.Mathlib.Omega.{arith}
use lib.ListN.{length}
use Rattle.log_feed.proofs.Running.{begin, line-len, next, ran, left}
use Rattle.log_feed.proofs.lines.Goals as goal

pub loop-end-init : goal.loop-end-init
loop-end-init c =
    let a = c.args in
    (begin a.state.now a.block.now a.out.now a.counts _ c.requires.0 c.requires.1 c.find-end.ensures.0 c.find-end.ensures.1, refl)

pub line-s-requires : goal.line-s-requires
line-s-requires c =
    let l = c.loop-end in
    let g = l.invariant.0 in
    let k = line-len _ _ c.args.block.now _ _ _ _ _ _ _ g c.loop-end-test.true in
    (g.sound, (omega (arith, k, g.feed), omega (arith, g.room, g.long)))

pub loop-end-preserved : goal.loop-end-preserved
loop-end-preserved c =
    let l = c.loop-end in
    let a = c.args in
    let g = l.invariant.0 in (
      next a.state.now a.counts a.block.now (length a.out.now) l.state l.out l.c l.from l.at l.end g c.loop-end-test.true
          _ refl c.line-s.result c.line-s.new.state c.line-s.new.out c.line-s.ensures.out_after c.line-s.ensures.fact.1 c.line-s.ensures.fact.0
          (c.line-s.auto.out ∙ g.long) c.find-end-in-loop-end.result c.find-end-in-loop-end.ensures.0 c.find-end-in-loop-end.ensures.1,
      c.line-s.auto.state ∙ l.invariant.1,
    )

pub returns : goal.returns
returns c =
    let l = c.loop-end in
    let g = l.invariant.0 in
    record {
      run = ran _ _ _ _ _ _ _ _ _ _ g (omega arith);
      rest = left _ _ _ _ _ _ _ _ _ _ g (omega arith);
      sound = g.sound;
      from = g.start;
      room = omega (arith, g.room);
    }
