-- Allocation: what its reader and its writer go by.
use mathlib.Core.Path.{◌≡◌, refl, sym, ap, ◌∙◌}
use mathlib.Core.Bool.{Bool}
use mathlib.Core.List.{List, [], ◌∷◌, ◌++◌, append_assoc}
use Prim.Native.Nat.{ℕ, ◌+◌, ◌*◌, ◌≤◌, ◌<◌}
use native.Mathlib.Omega.{arith}
use lib.Dec.{leb}
use lib.IntN.{ℤ}
use lib.ListN.{length, length-append}
use Rattle.bits.specs.Order.{Octets, unpack, to_bits, store}
use Rattle.bits.proofs.Numbers.{length-to_bits}
use Rattle.shape.specs.Answer.{refused, got, numbered}
use Rattle.shape.specs.Shape.{Values, encode, decoded, fits}
use Rattle.shape.proofs.Fields.{and-true, length-item_bits}
use Rattle.shape.proofs.Reading.{Slot, value, refused-on, got-on, ht-short, ht-long, ht-held, ht-only}
use Rattle.shape.proofs.Writing.{more, item-bytes, all-bytes}
use Rattle.shape.proofs.CastFacts.{cast}
use Rattle.protocol_dynamic_node_id.specs.Allocation.{allocation, unique_id_in, allocation_of, allocation_in}
use Rattle.protocol_dynamic_node_id.specs.Laws.{allocation_found}
use Rattle.protocol_dynamic_node_id.specs.declared.allocation.Allocation.{Allocation}

abbrev head : List Slot
head = value 7 ∷ value 1 ∷ []

module _ (s : List ℕ) (o : Octets s) where
  pub short : length s < 1 → allocation_in s ≡ numbered (refused 15)
  short h = ap numbered (refused-on allocation_of refl (ht-short head 1 refl 16 s o h))

  pub long : 1 ≤ length s → 16 < length (unique_id_in s) → allocation_in s ≡ numbered (refused 16)
  long h l = ap numbered (refused-on allocation_of refl (ht-long head 1 refl 16 s o h l))

  pub held : 1 ≤ length s → length (unique_id_in s) ≤ 16 → allocation_in s ≡ numbered (got (allocation_of (allocation_found s)))
  held h l = ap numbered (got-on allocation_of refl (ht-held head 1 refl 16 s o h l))

  pub only : (v : Values allocation) → decoded allocation s ≡ got v → v ≡ allocation_found s
  only v e = ht-only head 1 refl 16 s o v e

pub made : {n n' f f' : ℤ} {l l' : ℕ} → n ≡ n' → f ≡ f' → l ≡ l'
    → ◌≡◌ {A = Allocation} (record { node_id = n; first_part_of_unique_id = f; unique_id = record { at = 1; len = l } })
    (record { node_id = n'; first_part_of_unique_id = f'; unique_id = record { at = 1; len = l' } })
made a b c = cc

module _ (n f : ℤ) (u : List ℕ) where
  pub size : length (encode allocation (n, (f, u))) ≡ (1 + length u) * 8
  unfolding encode
  size = simp (length-append, length-to_bits, length-item_bits) (omega arith)

  pub fit : Octets u → leb (length u) 16 ≡ fits allocation (n, (f, u))
  unfolding fits
  fit o = rw (all-bytes u o) (simp and-true)

  pub stored : (m₀ m₁ m₂ m₃ : List ℕ) → 1 ≤ length m₀ → m₁ ≡ store m₀ 0 (to_bits 7 (cast 7 n)) → m₂ ≡ store m₁ 7 (to_bits 1 (cast 1 f)) → m₃ ≡ store m₂ 8 (unpack u)
      → m₃ ≡ store m₀ 0 (encode allocation (n, (f, u)))
  unfolding encode
  stored m₀ m₁ m₂ m₃ h e₁ e₂ e₃ =
      let a = to_bits 7 (cast 7 n) in
      let b = to_bits 1 (cast 1 f) in
      let f₂ = more m₀ m₁ m₂ a b 7 e₁ (length-to_bits 7 (cast 7 n)) (omega arith) e₂ in
      let f₃ = more m₀ m₂ m₃ (a ++ b) (unpack u) 8 f₂ (simp (length-append, length-to_bits)) (omega arith) e₃ in
      f₃ ∙ ap (λ (l : List Bool). store m₀ 0 l) (append_assoc a b (unpack u)) ∙ ap (λ (l : List Bool). store m₀ 0 (a ++ (b ++ l))) (sym (item-bytes u))
