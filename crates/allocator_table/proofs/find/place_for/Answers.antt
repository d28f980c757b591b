-- `find::place_for` meets its contract: every entry passed has a smaller unique ID.
use mathlib.Core.Path.{sym, ap, ◌∙◌}
use Prim.Native.Nat.{ℕ}
use native.Mathlib.Numerals.{add-one}
use native.Mathlib.Omega.{arith}
use lib.Dec.{ltb}
use Rattle.allocator_table.specs.Table.{place_for}
use Rattle.allocator_table.specs.inside.Code.{number_of}
use Rattle.allocator_table.proofs.Walk.{by_count, place_none, place-hit, place-miss}
use Rattle.allocator_table.proofs.Soundness.{long-enough, entries-few}
use Rattle.allocator_table.proofs.find.place_for.Goals as goal

pub count-n-requires : goal.count-n-requires
count-n-requires c = long-enough _ c.requires

pub unique_id-requires : goal.unique_id-requires
unique_id-requires c =
    let l = long-enough c.args.state.now c.requires in
    omega (arith, c.count-n.ensures, entries-few c.args.state.now c.requires)

pub returns-then-not-is_less : goal.returns-then-not-is_less
returns-then-not-is_less c =
    let a = c.args in
    let u = number_of a.u in
    let e = ap (λ (x : ℕ). ltb x u) (sym c.unique_id.ensures) ∙ sym c.is_less.ensures ∙ c.if-not-is_less.true in
    let z = place-hit a.state.now c.loop-i.i c.count-n.result (omega arith) u e in
    omega (arith, c.loop-i.invariant, ap (place_for u) (by_count a.state.now c.count-n.result c.count-n.ensures))

pub loop-i-preserved : goal.loop-i-preserved
loop-i-preserved c =
    let a = c.args in
    let u = number_of a.u in
    let e = ap (λ (x : ℕ). ltb x u) (sym c.unique_id.ensures) ∙ sym c.is_less.ensures ∙ c.if-not-is_less.false in
    rw add-one (omega (arith, place-miss a.state.now c.loop-i.i c.count-n.result (omega arith) u e, c.loop-i.invariant))

pub returns : goal.returns
returns c =
    let a = c.args in
    let u = number_of a.u in
    let z = place_none a.state.now c.loop-i.i c.count-n.result u (omega arith) in
    omega (arith, c.loop-i.invariant, ap (place_for u) (by_count a.state.now c.count-n.result c.count-n.ensures))
