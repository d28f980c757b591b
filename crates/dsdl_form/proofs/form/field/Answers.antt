-- `form::field` meets its contract.
use mathlib.Core.List.{List, [], ◌∷◌, ◌++◌}
use Prim.Native.Nat.{ℕ}
use Rattle.dsdl.specs.Form.{type_form}
use Rattle.dsdl_form.proofs.Placements.{next, front, behind}
use Rattle.dsdl_form.proofs.form.field.Goals as goal

pub type_of-q-requires : goal.type_of-q-requires
type_of-q-requires c =
    let t = type_form c.args.space.now c.args.c c.args.w.now in
    let y : List ℕ = 32 ∷ c.args.x.now in
    (c.requires.0, (c.requires.1.0, front c.text-p.result t y (behind (10 ∷ []) (t ++ y) c.text-p.ensures c.requires.1.1)))

pub text-s-requires : goal.text-s-requires
text-s-requires c =
    let t = type_form c.args.space.now c.args.c c.args.w.now in
    let y : List ℕ = 32 ∷ c.args.x.now in
    front c.type_of-q.result (32 ∷ []) c.args.x.now (behind t y c.type_of-q.ensures (behind (10 ∷ []) (t ++ y) c.text-p.ensures c.requires.1.1))

pub text-requires : goal.text-requires
text-requires c =
    let t = type_form c.args.space.now c.args.c c.args.w.now in
    let y : List ℕ = 32 ∷ c.args.x.now in
    behind (32 ∷ []) c.args.x.now c.text-s.ensures (behind t y c.type_of-q.ensures (behind (10 ∷ []) (t ++ y) c.text-p.ensures c.requires.1.1))

pub returns : goal.returns
returns c =
    let t = type_form c.args.space.now c.args.c c.args.w.now in
    let y : List ℕ = 32 ∷ c.args.x.now in
    next (10 ∷ []) (t ++ y) c.text-p.ensures (next t y c.type_of-q.ensures (next (32 ∷ []) c.args.x.now c.text-s.ensures c.text.ensures))
