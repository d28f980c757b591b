-- `free::is_free` meets its contract, case by case.
use mathlib.Core.Path.{sym, ap, ◌∙◌}
use mathlib.Core.Bool.{not}
use native.Mathlib.Omega.{arith}
use Rattle.allocator_table.specs.Layout.{table_of}
use Rattle.allocator_table.proofs.Search.{free-zero, free_own, free-marked, free-held}
use Rattle.allocator_table.proofs.free.is_free.Goals as goal

pub returns-then-n-eq0 : goal.returns-then-n-eq0
returns-then-n-eq0 c = let a = c.args in free-zero a.r (table_of a.state.now) a.n c.if-n-eq0.true

pub returns-then-n-r : goal.returns-then-n-r
returns-then-n-r c =
    let a = c.args in
    free_own a.r (table_of a.state.now) a.n (omega arith) (omega arith) c.if-n-r.true

pub returns-then-is_marked : goal.returns-then-is_marked
returns-then-is_marked c =
    let a = c.args in
    free-marked a.r (table_of a.state.now) a.n (omega arith) (omega arith) c.if-n-r.false (sym c.is_marked.ensures ∙ c.if-is_marked.true)

pub returns : goal.returns
returns c =
    let a = c.args in
    ap not c.is_held.ensures
    ∙ free-held a.r (table_of a.state.now) a.n (omega arith) (omega arith) c.if-n-r.false (sym c.is_marked.ensures ∙ c.if-is_marked.false)
