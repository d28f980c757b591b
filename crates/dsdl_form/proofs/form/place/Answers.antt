-- `form::place` meets its contract.
use mathlib.Core.Path.{sym, ap}
use mathlib.Core.List.{List}
use Prim.Native.Nat.{ℕ}
use Rattle.dsdl_text.specs.Names.{space_of}
use Rattle.dsdl.specs.Definition.{lines_of}
use Rattle.dsdl.specs.Form.{lines_form}
use Rattle.dsdl_form.proofs.Placements.{next, front, behind, as-text, fits-as}
use Rattle.dsdl_form.proofs.Forms.{space-is}
use Rattle.dsdl_form.proofs.form.place.Goals as goal

pub text-p-requires : goal.text-p-requires
text-p-requires c =
    let n = c.args.name.now in front c.args.at n (lines_form (space_of n) (lines_of c.args.text.now)) c.requires.1

pub lines-requires : goal.lines-requires
lines-requires c =
    let n = c.args.name.now in
    let f : List ℕ → List ℕ = λ (x : List ℕ). lines_form x (lines_of c.args.text.now) in
    (c.requires.0, fits-as c.text-p.result (ap f (sym (space-is n c.space-n.result c.space-n.ensures.0))) (behind n (f (space_of n)) c.text-p.ensures c.requires.1))

pub returns : goal.returns
returns c =
    let n = c.args.name.now in
    let f : List ℕ → List ℕ = λ (x : List ℕ). lines_form x (lines_of c.args.text.now) in
    next n (f (space_of n)) c.text-p.ensures (as-text (ap f (space-is n c.space-n.result c.space-n.ensures.0)) c.lines.ensures)
