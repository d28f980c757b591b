-- `receive` meets its contract: a state at fault answers 20, any other is stepped.
use mathlib.Core.Path.{sym, ap, ◌∙◌}
use mathlib.Core.Bool.{Bool}
use Rattle.receiver.specs.Receive.{arrival_of, received_if, received}
use Rattle.receiver.proofs.receive.Goals as goal

pub returns-then-is_sound : goal.returns-then-is_sound
unfolding received received_if
returns-then-is_sound c =
    let a = c.args in
    c.receive_sound.ensures ∙ ap (λ (b : Bool). received_if b a.state.now (arrival_of a.id a.frame.now a.interface a.time) a.out.now) (sym (sym c.is_sound.ensures ∙ c.if-is_sound.true))

pub returns : goal.returns
unfolding received received_if
returns c =
    let a = c.args in
    ap (λ (b : Bool). received_if b a.state.now (arrival_of a.id a.frame.now a.interface a.time) a.out.now) (sym (sym c.is_sound.ensures ∙ c.if-is_sound.false))
