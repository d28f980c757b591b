-- `capacity` meets its contract.
use mathlib.Core.Path.{◌≡◌, refl}
use Prim.Native.Nat.{ℕ, ◌-◌, ◌/◌, ◌<◌}
use native.Mathlib.Omega.{arith}
use Rattle.rules.specs.Limits.{frame_record}
use Rattle.queue.specs.Layout.{records_at, capacity}
use Rattle.queue.proofs.capacity.Goals as goal

none : (n : ℕ) → n < records_at → 0 ≡ capacity n
unfolding capacity
none n h = let e : n - records_at ≡ 0 = omega arith in rw e

some : (n : ℕ) → (n - records_at) / frame_record ≡ capacity n
unfolding capacity
some n = refl

pub returns-then-n-lt-RECORDS_AT : goal.returns-then-n-lt-RECORDS_AT
returns-then-n-lt-RECORDS_AT c = none c.args.n c.if-n-lt-RECORDS_AT.true

pub returns : goal.returns
returns c = some c.args.n
