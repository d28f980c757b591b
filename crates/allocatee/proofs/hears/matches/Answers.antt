-- `hears::matches` meets its contract: the two are equal as far as u goes.
use native.Mathlib.Omega.{arith}
use mathlib.Core.Path.{◌∙◌}
use Rattle.allocatee.specs.Layout.{unique_of}
use Rattle.allocatee.specs.Limits.{unique_id_max}
use Rattle.allocatee.proofs.Beginnings.{same_front}
use Rattle.allocatee.proofs.hears.matches.Goals as goal

pub returns : goal.returns
unfolding unique_of
returns c =
    let a = c.args in
    c.starts_with.ensures.value ∙ same_front a.u.now a.bytes.now unique_id_max (omega arith) (omega arith)
