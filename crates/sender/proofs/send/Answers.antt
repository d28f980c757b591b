-- `send` meets its contract: a map at fault is refused first of all.
use mathlib.Core.Path.{sym, ◌∙◌}
use Rattle.sender.specs.Send.{call_of, returned}
use Rattle.sender.proofs.Lent.{faulty, faultless}
use Rattle.sender.proofs.send.Goals as goal

pub dispatch-requires : goal.dispatch-requires
dispatch-requires c = sym c.is_sound.ensures ∙ c.if-is_sound.true

pub returns-then-is_sound : goal.returns-then-is_sound
returns-then-is_sound c =
    faultless c.args.map.now (call_of c.args.c c.args.payload.now) c.args.out.now (returned c.dispatch.result c.dispatch.new.map c.dispatch.new.out)
    (sym c.is_sound.ensures ∙ c.if-is_sound.true) c.dispatch.ensures

pub returns : goal.returns
returns c =
    faulty c.args.map.now (call_of c.args.c c.args.payload.now) c.args.out.now (sym c.is_sound.ensures ∙ c.if-is_sound.false)
