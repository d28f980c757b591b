-- `gathered::is_new` meets its contract.
use mathlib.Core.Path.{◌≡◌, ap}
use mathlib.Core.Bool.{Bool, false, not}
use Prim.Native.Nat.{ℕ, ◌≤◌, ◌<◌}
use native.Mathlib.Omega.{arith}
use borrow.Author.Tests.{lt-ltb, le-ltb}
use lib.Dec.{eqb}
use Rattle.blocks.specs.inside.Bit.{bit_at}
use Rattle.sessions.specs.inside.Blocks.{new_to}
use borrow.Author.Rules.{rules}
use Rattle.sessions.proofs.gathered.is_new.Goals as goal

no-block : (all b : ℕ) → 64 ≤ b → false ≡ new_to all b
unfolding new_to
no-block all b h = rw (le-ltb b 64 h)

block : (all b : ℕ) (r : Bool) → b < 64 → r ≡ eqb (bit_at b all) 1 → not r ≡ new_to all b
unfolding new_to
block all b r h e = rw (lt-ltb b 64 h) (ap not e)

pub returns-then-b-gt63 : goal.returns-then-b-gt63
returns-then-b-gt63 c = no-block c.args.all c.args.b (omega (arith, c.if-b-gt63.true))

pub returns : goal.returns
returns c = block _ _ c.has.result (search rules) c.has.ensures
