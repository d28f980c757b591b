-- `sound::entry_fits` meets its contract, case by case.
use mathlib.Core.Path.{sym, ap, ap₂, ◌∙◌}
use Prim.Native.Nat.{ℕ, suc}
use native.Mathlib.Numerals.{add-one}
use native.Mathlib.Omega.{arith}
use lib.Dec.{ltb}
use Rattle.allocator_table.specs.Layout.{unique_at, entry_at}
use Rattle.allocator_table.specs.Table.{holds}
use Rattle.allocator_table.proofs.Walk.{rest}
use Rattle.allocator_table.proofs.Soundness.{unfit-zero, unfit-large, unfit-held, by_order, below_next, below_none, seen-held, unseen}
use Rattle.allocator_table.proofs.sound.entry_fits.Goals as goal

pub returns-then-node-eq0 : goal.returns-then-node-eq0
returns-then-node-eq0 c =
    let a = c.args in
    let m = a.state.now in
    unfit-zero (entry_at m a.i) (rest m (suc a.i) a.n) (sym c.node-node.ensures ∙ c.if-node-eq0.true)

pub returns-then-node-gt-NODES : goal.returns-then-node-gt-NODES
returns-then-node-gt-NODES c =
    let a = c.args in
    let m = a.state.now in
    unfit-large (entry_at m a.i) (rest m (suc a.i) a.n) (omega (arith, c.node-node.ensures)) (omega (arith, c.node-node.ensures))

pub returns-then-seen-node-ne0 : goal.returns-then-seen-node-ne0
returns-then-seen-node-ne0 c =
    let a = c.args in
    let m = a.state.now in
    let t = rest m (suc a.i) a.n in
    unfit-held (entry_at m a.i) t (omega (arith, c.node-node.ensures)) (omega (arith, c.node-node.ensures))
    (ap (λ (x : ℕ). holds x t) (sym c.node-node.ensures) ∙ seen-held a.seen.now t c.requires.seen c.node-node.result (omega arith) c.if-seen-node-ne0.true)

pub returns-then-next-n : goal.returns-then-next-n
returns-then-next-n c =
    let a = c.args in
    let m = a.state.now in
    let t = rest m (suc a.i) a.n in
    c.is_less.ensures ∙ ap₂ ltb c.unique_id.ensures (c.unique_id-then-next-n.ensures ∙ ap (unique_at m) (add-one a.i))
    ∙ below_next m (suc a.i) a.n (unique_at m a.i) (omega arith)
    ∙ by_order (entry_at m a.i) t (omega (arith, c.node-node.ensures)) (omega (arith, c.node-node.ensures))
    (ap (λ (x : ℕ). holds x t) (sym c.node-node.ensures) ∙ unseen a.seen.now t c.requires.seen c.node-node.result (omega arith) c.if-seen-node-ne0.false)

pub returns : goal.returns
returns c =
    let a = c.args in
    let m = a.state.now in
    let t = rest m (suc a.i) a.n in
    below_none m (suc a.i) a.n (unique_at m a.i) (omega arith)
    ∙ by_order (entry_at m a.i) t (omega (arith, c.node-node.ensures)) (omega (arith, c.node-node.ensures))
    (ap (λ (x : ℕ). holds x t) (sym c.node-node.ensures) ∙ unseen a.seen.now t c.requires.seen c.node-node.result (omega arith) c.if-seen-node-ne0.false)
