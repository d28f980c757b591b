-- `sound::claim_place` meets its contract, case by case.
use mathlib.Core.Path.{sym, ◌∙◌}
use Rattle.sessions.proofs.Listed.{none-claimed, no_stream, in-stream}
use Rattle.sessions.proofs.sound.claim_place.Goals as goal

pub returns-then-k-eq0 : goal.returns-then-k-eq0
returns-then-k-eq0 c = none-claimed c.args.state.now c.args.i c.args.k c.args.seen c.requires.1 c.if-k-eq0.true

pub returns-then-stream_fits : goal.returns-then-stream_fits
returns-then-stream_fits c =
    c.claim_session.ensures
    ∙ in-stream c.args.state.now c.args.i c.args.k c.args.seen c.requires.1 c.if-k-eq0.false (sym c.stream_fits.ensures ∙ c.if-stream_fits.true)

pub returns : goal.returns
returns c =
    no_stream c.args.state.now c.args.i c.args.k c.args.seen c.requires.1 c.if-k-eq0.false (sym c.stream_fits.ensures ∙ c.if-stream_fits.false)
