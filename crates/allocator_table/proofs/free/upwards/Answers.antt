-- `free::upwards` meets its contract: no node ID passed is free.
use mathlib.Core.Path.{sym, ap, ◌∙◌}
use Prim.Native.Nat.{suc}
use native.Mathlib.Numerals.{add-one}
use native.Mathlib.Omega.{arith}
use Rattle.allocator_table.specs.Limits.{node_max}
use Rattle.allocator_table.specs.inside.Code.{optional}
use Rattle.allocator_table.proofs.Search.{low-hit, low-miss, low-none}
use Rattle.allocator_table.proofs.free.upwards.Invariants.{free}
use Rattle.allocator_table.proofs.free.upwards.Goals as goal

pub is_free-requires : goal.is_free-requires
is_free-requires c = (c.requires.0, omega arith)

pub returns-then-is_free : goal.returns-then-is_free
returns-then-is_free c =
    let a = c.args in
    let e = sym c.is_free.ensures ∙ c.if-is_free.true in
    (ap optional (sym (low-hit (free a.state.now a.r) c.loop-n.n (suc node_max) (omega arith) e) ∙ c.loop-n.invariant), omega arith)

pub loop-n-preserved : goal.loop-n-preserved
loop-n-preserved c =
    let a = c.args in
    let e = sym c.is_free.ensures ∙ c.if-is_free.false in
    rw add-one (sym (low-miss (free a.state.now a.r) c.loop-n.n (suc node_max) (omega arith) e) ∙ c.loop-n.invariant)

pub returns : goal.returns
returns c =
    let a = c.args in
    (ap optional (sym (low-none (free a.state.now a.r) c.loop-n.n (suc node_max) (omega arith)) ∙ c.loop-n.invariant), tt)
