-- What a message that could be read is: at most 16 bytes of a unique ID, and a node ID below 128.
use mathlib.Core.Path.{◌≡◌, refl, sym, ap, ◌∙◌}
use mathlib.Core.Bool.{Bool, true, false}
use mathlib.Core.List.{List}
use Prim.Native.Nat.{ℕ, ◌≤◌, ◌<◌}
use native.Mathlib.Omega.{arith}
use borrow.Author.Tests.{ltb-true, ltb-false}
use lib.Dec.{ltb}
use lib.IntN.{nat_abs}
use lib.ListN.{length}
use Rattle.bits.specs.Order.{Octets, unpack}
use Rattle.bits.proofs.Bytes.{length-unpack}
use Rattle.bits.proofs.Numbers.{from_bits-lt}
use Rattle.shape.specs.Answer.{Answer, refused, got, Numbered, numbered, map_answer}
use Rattle.shape.specs.Shape.{Values, decoded}
use Rattle.protocol_dynamic_node_id.specs.Allocation.{allocation, unique_id_in, allocation_of}
use Rattle.protocol_dynamic_node_id.specs.declared.allocation.Allocation.{Allocation}
use Rattle.protocol_dynamic_node_id.proofs.AllocationFacts.{short, long, only}
use Rattle.allocatee.specs.Limits.{unique_id_max}

-- what was read was not refused
never : (k : ℕ) (v : Values allocation) (x : Answer (Values allocation)) → x ≡ got v → numbered (map_answer allocation_of x) ≡ numbered (refused k) → ⊥
unfolding map_answer
never k v x e r =
    let w = ap (λ (n : Numbered Allocation). n.value) (sym (ap (λ y. numbered (map_answer allocation_of y)) e) ∙ r) in let z : ◌≡◌ {A = ℕ} 0 1 = cc in omega arith

module _ (p : List ℕ) (o : Octets p) (v : Values allocation) (e : decoded allocation p ≡ got v) where
  some : 1 ≤ length p
  some = go (ltb (length p) 1) refl where
    go : (b : Bool) → ltb (length p) 1 ≡ b → 1 ≤ length p
    go true w = absurd (never 15 v (decoded allocation p) e (short p o (ltb-true (length p) 1 w)))
    go false w = ltb-false (length p) 1 w

  pub few : length (unique_id_in p) ≤ unique_id_max
  few = go (ltb unique_id_max (length (unique_id_in p))) refl where
    go : (b : Bool) → ltb unique_id_max (length (unique_id_in p)) ≡ b → length (unique_id_in p) ≤ unique_id_max
    go true w = absurd (never 16 v (decoded allocation p) e (long p o some (ltb-true unique_id_max (length (unique_id_in p)) w)))
    go false w = ltb-false unique_id_max (length (unique_id_in p)) w

  pub node-below : nat_abs v.0 < 128
  node-below = rw (only p o v e) (from_bits-lt 7 (unpack p) (omega (arith, length-unpack p, some)))
