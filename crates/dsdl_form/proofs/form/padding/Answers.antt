-- `form::padding` meets its contract.
use mathlib.Core.List.{[], ◌∷◌}
use Rattle.dsdl_form.proofs.Placements.{next}
use Rattle.dsdl_form.proofs.form.padding.Goals as goal

pub returns : goal.returns
returns c =
    next (10 ∷ []) c.args.w.now c.text-p.ensures c.text.ensures
