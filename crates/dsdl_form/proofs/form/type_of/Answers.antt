-- `form::type_of` meets its contract.
use mathlib.Core.Path.{sym, ap, ◌∙◌}
use Prim.Native.Nat.{◌-◌}
use lib.ListN.{length}
use Rattle.dsdl_type.specs.Base.{base_text, size_text}
use Rattle.dsdl_type.specs.Size.{size_fits, size_form}
use Rattle.dsdl_form.specs.inside.Parts.{base_form}
use Rattle.dsdl_form.proofs.Placements.{next, front, behind, as-text, fits-as}
use Rattle.dsdl_form.proofs.Sizes.{part_length}
use Rattle.dsdl_form.proofs.Types.{base-is, size_is}
use Rattle.dsdl_form.proofs.form.type_of.Goals as goal

pub sizeless-p-requires : goal.sizeless-p-requires
sizeless-p-requires c =
    let w = c.args.w.now in
    let f = base_form c.args.space.now c.args.c in
    fits-as c.args.at (ap f (sym (base-is w _ c.run-n.ensures.0))) (front c.args.at (f (base_text w)) (size_form (size_text w)) c.requires.1.1)

pub write-requires : goal.write-requires
write-requires c =
    let w = c.args.w.now in
    let n = c.run-n.result in
    let e = c.run-n.ensures.0 in
    let f = base_form c.args.space.now c.args.c in
    let s = size_is w n e in
    let h = behind (f (base_text w)) (size_form (size_text w)) (as-text (ap f (base-is w n e)) c.sizeless-p.ensures) c.requires.1.1 in
    (part_length w (length w - n) n c.requires.0, (ap size_fits s ∙ c.requires.1.0, fits-as _ (ap size_form (sym s)) h))

pub returns : goal.returns
returns c =
    let w = c.args.w.now in
    let n = c.run-n.result in
    let e = c.run-n.ensures.0 in
    let f = base_form c.args.space.now c.args.c in
    next (f (base_text w)) (size_form (size_text w)) (as-text (ap f (base-is w n e)) c.sizeless-p.ensures)
    (as-text (ap size_form (size_is w n e)) c.write.ensures)
