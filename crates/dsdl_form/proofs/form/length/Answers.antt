-- `form::length` meets its contract.
use native.Mathlib.Omega.{arith}
use Rattle.dsdl_form.proofs.Bounds.{form-bound}
use Rattle.dsdl_form.proofs.form.length.Goals as goal

pub place-requires : goal.place-requires
place-requires c =
    (c.requires.1, omega (arith, form-bound c.args.name.now c.args.text.now c.requires.0 c.requires.1))

pub returns : goal.returns
returns c = let e = c.place.ensures.end in
    (omega arith, omega (arith, form-bound c.args.name.now c.args.text.now c.requires.0 c.requires.1))
