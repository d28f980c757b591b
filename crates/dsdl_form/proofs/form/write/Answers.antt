-- `form::write` meets its contract.
use Rattle.dsdl_form.proofs.form.write.Goals as goal

pub returns : goal.returns
returns c =
    (c.place.ensures.out c.requires.1, c.place.ensures.end)
