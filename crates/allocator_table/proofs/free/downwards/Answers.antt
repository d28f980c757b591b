-- `free::downwards` meets its contract: no node ID passed is free.
use mathlib.Core.Path.{sym, ap, ◌∙◌}
use Prim.Native.Nat.{◌-◌}
use native.Mathlib.Omega.{arith}
use Rattle.allocator_table.specs.inside.Code.{optional}
use Rattle.allocator_table.proofs.Search.{high-hit, high-miss, high-none}
use Rattle.allocator_table.proofs.free.downwards.Invariants.{free}
use Rattle.allocator_table.proofs.free.downwards.Goals as goal

pub is_free-requires : goal.is_free-requires
is_free-requires c = (c.requires.0, omega arith)

pub returns-then-is_free : goal.returns-then-is_free
returns-then-is_free c =
    let a = c.args in
    let e = sym c.is_free.ensures ∙ c.if-is_free.true in
    (ap optional (sym (high-hit (free a.state.now a.r) c.loop-n.n (c.loop-n.n - 1) (omega arith) e) ∙ c.loop-n.invariant), omega arith)

pub loop-n-preserved : goal.loop-n-preserved
loop-n-preserved c =
    let a = c.args in
    let e = sym c.is_free.ensures ∙ c.if-is_free.false in
    sym (high-miss (free a.state.now a.r) c.loop-n.n (c.loop-n.n - 1) (omega arith) e) ∙ c.loop-n.invariant

pub returns : goal.returns
returns c =
    let a = c.args in
    (ap optional (sym (high-none (free a.state.now a.r) c.loop-n.n (omega arith)) ∙ c.loop-n.invariant), tt)
