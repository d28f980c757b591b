-- `find::node_of` meets its contract: no entry passed has the unique ID.
use mathlib.Core.Path.{sym, ap, ◌∙◌}
use Rattle.std.specs.Prelude.{Some}
use Prim.Native.Nat.{ℕ}
use native.Mathlib.Numerals.{add-one}
use native.Mathlib.Omega.{arith}
use lib.Dec.{eqb}
use Rattle.allocator_table.specs.Table.{node_of}
use Rattle.allocator_table.specs.inside.Code.{number_of, optional}
use Rattle.allocator_table.proofs.Walk.{by_count, node-none, node-hit, node-miss}
use Rattle.allocator_table.proofs.Soundness.{long-enough, entries-few}
use Rattle.allocator_table.proofs.find.node_of.Goals as goal

pub count-n-requires : goal.count-n-requires
count-n-requires c = long-enough _ c.requires

pub unique_id-requires : goal.unique_id-requires
unique_id-requires c =
    let l = long-enough c.args.state.now c.requires in
    omega (arith, c.count-n.ensures, entries-few c.args.state.now c.requires)

pub node-requires : goal.node-requires
node-requires c =
    let l = long-enough c.args.state.now c.requires in
    omega (arith, c.count-n.ensures, entries-few c.args.state.now c.requires)

pub returns-then-is_same : goal.returns-then-is_same
returns-then-is_same c =
    let a = c.args in
    let u = number_of a.u in
    let e = ap (λ (x : ℕ). eqb x u) (sym c.unique_id.ensures) ∙ sym c.is_same.ensures ∙ c.if-is_same.true in
    ap Some c.node.ensures ∙ ap optional (sym (node-hit a.state.now c.loop-i.i c.count-n.result (omega arith) u e) ∙ c.loop-i.invariant ∙ ap (node_of u) (by_count a.state.now c.count-n.result c.count-n.ensures))

pub loop-i-preserved : goal.loop-i-preserved
loop-i-preserved c =
    let a = c.args in
    let u = number_of a.u in
    let e = ap (λ (x : ℕ). eqb x u) (sym c.unique_id.ensures) ∙ sym c.is_same.ensures ∙ c.if-is_same.false in
    rw add-one (sym (node-miss a.state.now c.loop-i.i c.count-n.result (omega arith) u e) ∙ c.loop-i.invariant)

pub returns : goal.returns
returns c =
    let a = c.args in
    let u = number_of a.u in
    ap optional (sym (node-none a.state.now c.loop-i.i c.count-n.result u (omega arith)) ∙ c.loop-i.invariant ∙ ap (node_of u) (by_count a.state.now c.count-n.result c.count-n.ensures))
