-- `place::text` meets its contract.
use Rattle.dsdl_form.proofs.Placements.{no_room}
use Rattle.dsdl_form.proofs.place.text.Goals as goal

pub returns-then-out-end : goal.returns-then-out-end
returns-then-out-end c =
    no_room c.args.out.now c.args.at c.args.s.now c.if-out-end.true
