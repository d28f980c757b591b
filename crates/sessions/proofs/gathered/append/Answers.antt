-- `gathered::append` meets its contract: one store, or two.
use mathlib.Core.Path.{◌∙◌}
use Prim.Native.Nat.{◌+◌, ◌*◌, ◌/◌, ◌<◌}
use native.Mathlib.Omega.{arith}
use lib.ListN.{get_or}
use Rattle.sessions.proofs.Stored.{next-number, one-tail, two-tails}
use Rattle.sessions.proofs.gathered.append.Goals as goal
use Rattle.sessions.proofs.gathered.append.Goals.{Else-n-p-le-BLOCK}

-- the number of the next block
next-lt : (c : Else-n-p-le-BLOCK) → get_or c.args.state.now (1296 + c.args.i * 9 + c.args.n / 64 + 1) 0 < 64
next-lt c =
    let a = c.args in
    let p = c.requires in
    omega (arith, next-number a.state.now a.i a.n, p.next (omega (arith, c.if-n-p-le-BLOCK.false)))

pub returns-then-n-p-le-BLOCK : goal.returns-then-n-p-le-BLOCK
returns-then-n-p-le-BLOCK c =
    let a = c.args in
    c.copy_few.ensures ∙ one-tail a.state.now a.i a.n a.p.now c.if-n-p-le-BLOCK.true

pub overflow_cast-next : goal.overflow_cast-next
overflow_cast-next c = omega (arith, next-lt (goal.at.overflow_cast-next c).Else-n-p-le-BLOCK)

pub overflow_mul-next : goal.overflow_mul-next
overflow_mul-next c = omega (arith, next-lt (goal.at.overflow_mul-next c).Else-n-p-le-BLOCK)

pub overflow_add-next-2 : goal.overflow_add-next-2
overflow_add-next-2 c = omega (arith, next-lt (goal.at.overflow_add-next-2 c).Else-n-p-le-BLOCK)

pub copy_span-requires-2 : goal.copy_span-requires-2
copy_span-requires-2 c =
    let p = c.requires in
    (omega (arith, c.if-n-p-le-BLOCK.false), omega (arith, p.long, p.few, p.short, c.if-n-p-le-BLOCK.false, next-lt (goal.at.copy_span-requires-2 c).Else-n-p-le-BLOCK, c.copy_span.auto.dst))

pub returns : goal.returns
returns c =
    let a = c.args in
    two-tails a.state.now _ _ a.i a.n a.p.now (omega (arith, c.if-n-p-le-BLOCK.false)) c.requires.some c.copy_span-2.ensures c.copy_span.ensures
