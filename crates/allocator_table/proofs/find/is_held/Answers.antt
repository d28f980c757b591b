-- `find::is_held` meets its contract: no entry passed has the node ID.
use mathlib.Core.Path.{sym, ap, ◌∙◌}
use native.Mathlib.Numerals.{add-one}
use native.Mathlib.Omega.{arith}
use borrow.Author.Tests.{eq-eqb, ne_eqb}
use Rattle.allocator_table.specs.Table.{holds}
use Rattle.allocator_table.proofs.Walk.{by_count, held_none, held-hit, held-miss}
use Rattle.allocator_table.proofs.Soundness.{long-enough, entries-few}
use Rattle.allocator_table.proofs.find.is_held.Goals as goal

pub count-n-requires : goal.count-n-requires
count-n-requires c = long-enough _ c.requires

pub node-requires : goal.node-requires
node-requires c =
    let l = long-enough c.args.state.now c.requires in
    omega (arith, c.count-n.ensures, entries-few c.args.state.now c.requires)

pub returns-then-node : goal.returns-then-node
returns-then-node c =
    let a = c.args in
    let x = a.node in
    let e = eq-eqb _ x (sym c.node.ensures ∙ c.if-node.true) in
    sym (held-hit a.state.now c.loop-i.i c.count-n.result (omega arith) x e) ∙ c.loop-i.invariant ∙ ap (holds x) (by_count a.state.now c.count-n.result c.count-n.ensures)

pub loop-i-preserved : goal.loop-i-preserved
loop-i-preserved c =
    let a = c.args in
    let x = a.node in
    let e = ne_eqb _ x (λ z. c.if-node.false (c.node.ensures ∙ z)) in
    rw add-one (sym (held-miss a.state.now c.loop-i.i c.count-n.result (omega arith) x e) ∙ c.loop-i.invariant)

pub returns : goal.returns
returns c =
    let a = c.args in
    let x = a.node in
    sym (held_none a.state.now c.loop-i.i c.count-n.result x (omega arith)) ∙ c.loop-i.invariant ∙ ap (holds x) (by_count a.state.now c.count-n.result c.count-n.ensures)
