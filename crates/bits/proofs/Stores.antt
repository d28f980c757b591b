-- What a store leaves: the number stored is read back, all other bits are as they were.
use mathlib.Core.Path.{◌≡◌, refl, sym, ap, ◌∙◌}
use mathlib.Core.Bool.{Bool}
use mathlib.Core.List.{List, ◌++◌}
use Prim.Native.Nat.{ℕ, ◌+◌, ◌*◌, ◌^◌, ◌≤◌, ◌<◌}
use native.Mathlib.Omega.{arith}
use lib.ListN.{length, take, drop}
use lib.Seq.{take_at, drop_at, drop-drop, length-take-le}
use Rattle.bits.specs.Order.{unpack, to_bits, from_bits, store}
use Rattle.bits.proofs.Bytes.{length-unpack, unpack-store}
use Rattle.bits.proofs.Numbers.{length-to_bits, from_bits-to_bits}

module _ (m : List ℕ) (at : ℕ) (bs : List Bool) (h : at + length bs ≤ length m * 8) where
  front : length (take at (unpack m)) ≡ at
  front = length-take-le at (unpack m) (omega (arith, length-unpack m))

  -- the bits before
  pub before-store : take at (unpack (store m at bs)) ≡ take at (unpack m)
  before-store = ap (λ (l : List Bool). take at l) (unpack-store m at bs h) ∙ take_at (take at (unpack m)) (bs ++ drop (at + length bs) (unpack m)) at front

  -- the bits stored, and those after
  pub from-store : drop at (unpack (store m at bs)) ≡ bs ++ drop (at + length bs) (unpack m)
  from-store = ap (λ (l : List Bool). drop at l) (unpack-store m at bs h) ∙ drop_at (take at (unpack m)) (bs ++ drop (at + length bs) (unpack m)) at front

  pub behind-store : drop (at + length bs) (unpack (store m at bs)) ≡ drop (at + length bs) (unpack m)
  behind-store =
      sym (drop-drop (length bs) at (unpack (store m at bs))) ∙ ap (λ (l : List Bool). drop (length bs) l) from-store
      ∙ drop_at bs (drop (at + length bs) (unpack m)) (length bs) refl

-- what `write_bits` stores, `read_bits` reads
pub written_read : (m : List ℕ) (at w v : ℕ) → at + w ≤ length m * 8 → v < 2 ^ w → from_bits w (drop at (unpack (store m at (to_bits w v)))) ≡ v
written_read m at w v h hv =
    ap (λ (l : List Bool). from_bits w l) (from-store m at (to_bits w v) (omega (arith, length-to_bits w v)))
    ∙ from_bits-to_bits w v (drop (at + length (to_bits w v)) (unpack m)) hv
