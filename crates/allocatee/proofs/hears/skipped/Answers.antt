-- `hears::skipped` meets its contract.
use mathlib.Core.Path.{◌≡◌}
use mathlib.Core.Bool.{Bool, true, false}
use Prim.Native.Nat.{ℕ, ◌+◌, ◌≤◌, ◌<◌}
use native.Mathlib.Numerals.{add-one}
use borrow.Author.Tests.{lt-ltb, le-ltb}
use Rattle.allocatee.specs.Calls.{skips}
use Rattle.allocatee.specs.Limits.{unique_id_max}
use Rattle.allocatee.proofs.hears.skipped.Goals as goal

module _ (own : Bool) (n : ℕ) where
  few : own ≡ true → n < unique_id_max → n + 1 ≡ skips own n
  unfolding skips
  few o h = rw (o, lt-ltb n unique_id_max h) (add-one n)

  all : own ≡ true → unique_id_max ≤ n → 0 ≡ skips own n
  unfolding skips
  all o h = rw (o, le-ltb n unique_id_max h)

  other : own ≡ false → 0 ≡ skips own n
  unfolding skips
  other o = rw o

pub returns-then-n-lt-UNIQUE_ID : goal.returns-then-n-lt-UNIQUE_ID
returns-then-n-lt-UNIQUE_ID c = few c.args.own c.args.n c.if-own.true c.if-n-lt-UNIQUE_ID.true

pub returns-then-own : goal.returns-then-own
returns-then-own c = all c.args.own c.args.n c.if-own.true c.if-n-lt-UNIQUE_ID.false

pub returns : goal.returns
returns c = other c.args.own c.args.n c.if-own.false
