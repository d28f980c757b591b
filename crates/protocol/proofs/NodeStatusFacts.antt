-- NodeStatus: what its reader and its writer go by.
use mathlib.Core.Path.{◌≡◌, refl, ap, ◌∙◌}
use mathlib.Core.Bool.{Bool, true, false}
use mathlib.Core.List.{List, [], ◌∷◌, ◌++◌, append_assoc, append-nil}
use Prim.Native.Nat.{ℕ, ◌*◌, ◌≤◌, ◌<◌}
use native.Mathlib.Omega.{arith}
use borrow.Author.Tests.{ltb-true, ltb-false}
use lib.Dec.{ltb}
use lib.IntN.{ℤ, pos}
use lib.ListN.{length, drop, length-append, length-drop}
use Rattle.bits.specs.Order.{unpack, to_bits, store}
use Rattle.bits.proofs.Bytes.{length-unpack}
use Rattle.bits.proofs.Numbers.{length-to_bits}
use Rattle.shape.specs.Answer.{refused, got, numbered}
use Rattle.shape.specs.Shape.{end, Values, encode, decoded, fits}
use Rattle.shape.proofs.Reading.{Slot, value, gap, with_head, head-short, head_bytes, end_none, end-left, refused-on, got-on, never}
use Rattle.shape.proofs.Reading as reading
use Rattle.shape.proofs.Writing.{more}
use Rattle.shape.proofs.CastFacts.{cast}
use Rattle.protocol.specs.NodeStatus.{node_status, status_values, status_of, status_in, status_at}
use Rattle.protocol.specs.Laws.{status_found}
use Rattle.protocol.specs.declared.node_status.NodeStatus.{NodeStatus}

abbrev head : List Slot
head = value 32 ∷ value 2 ∷ value 3 ∷ gap 3 ∷ value 16 ∷ []

module _ (s : List ℕ) where
  ends : length s < 7 → decoded node_status s ≡ refused 15
  ends h = head-short head end (unpack s) (omega (arith, length-unpack s))

  left : length (unpack (drop 7 s)) ≡ length (drop 7 s) * 8
  left = length-unpack (drop 7 s)

  too_many : 7 < length s → decoded node_status s ≡ refused 16
  too_many h =
      refused-on (with_head head end (unpack s) 0) (head_bytes head end 7 refl s (omega arith)) (end-left (unpack (drop 7 s)) (omega (arith, left, length-drop 7 s)))

  exact : length s ≡ 7 → decoded node_status s ≡ got (status_found s)
  unfolding status_at
  exact h = got-on (with_head head end (unpack s) 0) (head_bytes head end 7 refl s (omega arith))
      (end_none (unpack (drop 7 s)) (omega (arith, left, length-drop 7 s)))

  pub short : length s < 7 → status_in s ≡ numbered (refused 15)
  short h = ap numbered (refused-on (status_of end) refl (ends h))

  pub long : 7 < length s → status_in s ≡ numbered (refused 16)
  long h = ap numbered (refused-on (status_of end) refl (too_many h))

  pub read : length s ≡ 7 → status_in s ≡ numbered (got (status_at (unpack s)))
  unfolding status_at
  read h = ap numbered (got-on (status_of end) refl (exact h))

  -- nothing else is read
  pub only : (v : Values node_status) → decoded node_status s ≡ got v → v ≡ status_found s
  only v e = go (ltb (length s) 7) (ltb 7 (length s)) refl refl where
    go : (a b : Bool) → ltb (length s) 7 ≡ a → ltb 7 (length s) ≡ b → v ≡ status_found s
    go true b ea eb = absurd (never (ends (ltb-true (length s) 7 ea)) e)
    go false true ea eb = absurd (never (too_many (ltb-true 7 (length s) eb)) e)
    go false false ea eb = reading.only e (exact (omega (arith, ltb-false (length s) 7 ea, ltb-false 7 (length s) eb)))

pub made : {u h m v u' h' m' v' : ℤ} → u ≡ u' → h ≡ h' → m ≡ m' → v ≡ v'
    → ◌≡◌ {A = NodeStatus} (record { uptime_sec = u; health = h; mode = m; sub_mode = pos 0; vendor_specific_status_code = v })
    (record { uptime_sec = u'; health = h'; mode = m'; sub_mode = pos 0; vendor_specific_status_code = v' })
made a b c d = cc

module _ (x : NodeStatus) where
  pub size : length (encode node_status (status_values x end tt)) ≡ 56
  unfolding encode
  size = simp (length-append, length-to_bits)

  pub fit : fits node_status (status_values x end tt) ≡ true
  unfolding fits
  fit = refl

  pub stored : (m₀ m₁ m₂ m₃ m₄ m₅ : List ℕ) → 7 ≤ length m₀ → m₁ ≡ store m₀ 0 (to_bits 32 (cast 32 x.uptime_sec)) → m₂ ≡ store m₁ 32 (to_bits 2 (cast 2 x.health))
      → m₃ ≡ store m₂ 34 (to_bits 3 (cast 3 x.mode)) → m₄ ≡ store m₃ 37 (to_bits 3 0) → m₅ ≡ store m₄ 40 (to_bits 16 (cast 16 x.vendor_specific_status_code))
      → m₅ ≡ store m₀ 0 (encode node_status (status_values x end tt))
  unfolding encode
  stored m₀ m₁ m₂ m₃ m₄ m₅ h e₁ e₂ e₃ e₄ e₅ =
      let a = to_bits 32 (cast 32 x.uptime_sec) in
      let b = to_bits 2 (cast 2 x.health) in
      let c = to_bits 3 (cast 3 x.mode) in
      let d = to_bits 3 0 in
      let e = to_bits 16 (cast 16 x.vendor_specific_status_code) in
      let f₂ = more m₀ m₁ m₂ a b 32 e₁ (length-to_bits 32 (cast 32 x.uptime_sec)) (omega arith) e₂ in
      let f₃ = more m₀ m₂ m₃ (a ++ b) c 34 f₂ (simp (length-append, length-to_bits)) (omega arith) e₃ in
      let f₄ = more m₀ m₃ m₄ (a ++ b ++ c) d 37 f₃ (simp (length-append, length-to_bits)) (omega arith) e₄ in
      let f₅ = more m₀ m₄ m₅ (a ++ b ++ c ++ d) e 40 f₄ (simp (length-append, length-to_bits)) (omega arith) e₅ in
      f₅ ∙ ap (λ (l : List Bool). store m₀ 0 l) (simp (append_assoc, append-nil))
