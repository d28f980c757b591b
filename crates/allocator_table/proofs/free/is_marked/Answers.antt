-- `free::is_marked` meets its contract: a bit of the low or of the high marks.
use mathlib.Core.Path.{◌≡◌}
use Prim.Native.Nat.{ℕ, ◌-◌, ◌/◌, ◌%◌, ◌^◌, ◌≤◌, ◌<◌}
use borrow.Author.Tests.{lt-ltb, le-ltb}
use lib.Dec.{eqb}
use Rattle.allocator_table.specs.Table.{is_marked}
use Rattle.allocator_table.specs.declared.free.Reserved.{Reserved}
use Rattle.allocator_table.proofs.free.is_marked.Goals as goal

low : (r : Reserved) (n : ℕ) → n < 64 → eqb (r.low / 2 ^ n % 2) 1 ≡ is_marked r n
unfolding is_marked
low r n h = rw (lt-ltb n 64 h)

high : (r : Reserved) (n : ℕ) → 64 ≤ n → eqb (r.high / 2 ^ (n - 64) % 2) 1 ≡ is_marked r n
unfolding is_marked
high r n h = rw (le-ltb n 64 h)

pub returns-then-n-lt64 : goal.returns-then-n-lt64
returns-then-n-lt64 c = let a = c.args in low a.r a.n c.if-n-lt64.true

pub returns : goal.returns
returns c = let a = c.args in high a.r a.n c.if-n-lt64.false
