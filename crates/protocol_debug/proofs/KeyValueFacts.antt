-- KeyValue: what its reader and its writer go by.
use mathlib.Core.Path.{◌≡◌, refl, sym, ap, ◌∙◌}
use mathlib.Core.Bool.{Bool}
use mathlib.Core.List.{List, [], ◌∷◌, ◌++◌}
use Prim.Native.Nat.{ℕ, ◌+◌, ◌*◌, ◌≤◌, ◌<◌}
use native.Mathlib.Omega.{arith}
use borrow.Author.Tests.{lt-ltb}
use lib.Dec.{leb}
use lib.ListN.{length, length-append}
use Rattle.bits.specs.Order.{Octets, unpack, to_bits, store}
use Rattle.bits.proofs.Numbers.{length-to_bits}
use Rattle.shape.specs.Answer.{refused, got, numbered}
use Rattle.shape.specs.Shape.{Values, encode, decoded, fits}
use Rattle.shape.proofs.Fields.{and-true, length-item_bits}
use Rattle.shape.proofs.Reading.{Slot, same, refused-on, got-on, ht-short, ht-long, ht-held, ht-only}
use Rattle.shape.proofs.Writing.{more, item-bytes, all-bytes}
use Rattle.protocol_debug.specs.KeyValue.{key_value, key_in, key_value_of, key_value_in}
use Rattle.protocol_debug.specs.Laws.{key_value_found}
use Rattle.protocol_debug.specs.declared.key_value.KeyValue.{KeyValue}

abbrev head : List Slot
head = same 32 ∷ []

module _ (s : List ℕ) (o : Octets s) where
  pub short : length s < 4 → key_value_in s ≡ numbered (refused 15)
  short h = ap numbered (refused-on key_value_of refl (ht-short head 4 refl 58 s o h))

  pub long : 4 ≤ length s → 58 < length (key_in s) → key_value_in s ≡ numbered (refused 16)
  long h l = ap numbered (refused-on key_value_of refl (ht-long head 4 refl 58 s o h l))

  pub held : 4 ≤ length s → length (key_in s) ≤ 58 → key_value_in s ≡ numbered (got (key_value_of (key_value_found s)))
  held h l = ap numbered (got-on key_value_of refl (ht-held head 4 refl 58 s o h l))

  pub only : (v : Values key_value) → decoded key_value s ≡ got v → v ≡ key_value_found s
  only v e = ht-only head 4 refl 58 s o v e

pub made : {v v' l l' : ℕ} → v ≡ v' → l ≡ l'
    → ◌≡◌ {A = KeyValue} (record { value = v; key = record { at = 4; len = l } }) (record { value = v'; key = record { at = 4; len = l' } })
made a b = cc

module _ (v : ℕ) (key : List ℕ) where
  pub size : length (encode key_value (v, key)) ≡ (4 + length key) * 8
  unfolding encode
  size = simp (length-append, length-to_bits, length-item_bits) (omega arith)

  pub fit : v < 4294967296 → Octets key → leb (length key) 58 ≡ fits key_value (v, key)
  unfolding fits
  fit h o = rw (lt-ltb v 4294967296 h, all-bytes key o) (simp and-true)

  pub stored : (m₀ m₁ m₂ : List ℕ) → 4 ≤ length m₀ → m₁ ≡ store m₀ 0 (to_bits 32 v) → m₂ ≡ store m₁ 32 (unpack key) → m₂ ≡ store m₀ 0 (encode key_value (v, key))
  unfolding encode
  stored m₀ m₁ m₂ h e₁ e₂ =
      more m₀ m₁ m₂ (to_bits 32 v) (unpack key) 32 e₁ (length-to_bits 32 v) (omega arith) e₂
      ∙ ap (λ (l : List Bool). store m₀ 0 (to_bits 32 v ++ l)) (sym (item-bytes key))
