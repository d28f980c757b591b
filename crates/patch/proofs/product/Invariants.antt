use mathlib.Core.Path.{◌≡◌}
use Prim.Native.Nat.{◌-◌, ◌/◌, ◌^◌}
use Rattle.patch.specs.inside.Powers.{product_of}
use Rattle.patch.proofs.product.Given as goal

abbrev pub invariant-loop-k : goal.invariant-loop-k
invariant-loop-k l = l.r ≡ product_of (l.bits - l.k) (l.v / 2 ^ l.k) l.w
