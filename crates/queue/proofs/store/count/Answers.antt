-- `store::count` meets its contract.
use mathlib.Core.Path.{◌≡◌, refl, ◌∙◌}
use mathlib.Core.List.{List}
use Prim.Native.Nat.{ℕ}
use Rattle.bits.specs.Little.{le}
use Rattle.bits.specs.Part.{span}
use Rattle.queue.specs.Layout.{count_at, count_of}
use Rattle.queue.proofs.store.count.Goals as goal

is : (m : List ℕ) → le (span m count_at 8) ≡ count_of m
unfolding count_of
is m = refl

pub returns : goal.returns
returns c = c.get_u64.ensures ∙ is _
