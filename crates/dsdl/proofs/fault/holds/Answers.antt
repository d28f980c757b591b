-- `fault::holds` meets its contract.
use Rattle.dsdl_type.proofs.Bases.{sized}
use Prim.Native.Nat.{ℕ}
use mathlib.Core.List.{List}
use mathlib.Core.Path.{ap, ap₂, ◌∙◌}
use Rattle.dsdl_type.specs.Constant.{fits}
use Rattle.dsdl_type.specs.Base.{base_text, base_of}
use Rattle.dsdl_type.specs.declared.base.Base.{Base}
use Rattle.dsdl_number.specs.Number.{initializer}
use Rattle.dsdl_text.specs.Words.{skip}
use Rattle.dsdl.proofs.NamePlaces.{base-part, value-part}
use Rattle.dsdl.proofs.fault.holds.Goals as goal

pub fits-requires : goal.fits-requires
fits-requires c = sized _ c.read.result c.read.ensures

pub returns : goal.returns
returns c =
    let l = c.args.l.now in
    let w = c.within-v.result in
    let i = c.within-j.result in
    c.fits.ensures ∙ ap₂ (λ (x : Base) (y : List ℕ). fits x (initializer y))
    (c.read.ensures ∙ ap base_of (base-part l w.at w.end c.run.result c.run.ensures.0 ∙ ap base_text c.within-v.ensures.0))
    (value-part l i.at i.end c.run-2.result c.run-2.ensures.0 ∙ ap skip c.within-j.ensures.0)
