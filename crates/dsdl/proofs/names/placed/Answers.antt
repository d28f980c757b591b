-- `names::placed` meets its contract.
use Rattle.dsdl.proofs.NamePlaces.{in-text, in-text-ends}
use mathlib.Core.Path.{◌∙◌}
use native.Mathlib.Omega.{arith}
use Rattle.dsdl.proofs.names.placed.Goals as goal

pub returns : goal.returns
returns c =
    let v = c.within-v in
    let a = c.args in
    (in-text a.t.now a.at a.end v.result.at v.result.end c.requires.0 v.ensures.1.0 v.ensures.1.1 ∙ v.ensures.0, (omega arith, in-text-ends a.t.now a.at a.end v.result.end c.requires.0 v.ensures.1.1))
