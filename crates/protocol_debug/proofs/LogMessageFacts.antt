-- LogMessage: what its reader and its writer go by.
use mathlib.Core.Path.{◌≡◌, refl, sym, ap, ◌∙◌}
use mathlib.Core.Bool.{Bool, true, false, ◌&&◌}
use mathlib.Core.List.{List, [], ◌∷◌, ◌++◌, append_assoc}
use Prim.Native.Nat.{ℕ, ◌+◌, ◌*◌, ◌-◌, ◌≤◌, ◌<◌}
use native.Mathlib.Omega.{arith}
use borrow.Author.Tests.{ltb-true, ltb-false}
use lib.Dec.{ltb, leb}
use lib.IntN.{ℤ}
use lib.ListN.{length, drop, length-append, length-drop}
use lib.Seq.{drop-drop, length-take-le}
use Rattle.bits.specs.Order.{Octets, value_from, unpack, number, to_bits, from_bits, store}
use Rattle.bits.specs.Width.{width_in, width_of}
use Rattle.bits.proofs.Bytes.{length-unpack, drop-unpack}
use Rattle.bits.proofs.Octets.{octets-drop}
use Rattle.bits.proofs.Numbers.{length-to_bits, from_bits-lt}
use Rattle.shape.specs.Answer.{refused, got, numbered, map_answer}
use Rattle.shape.specs.Shape.{Shape, list, tail, Values, anything, item_bits, encode, decode, decoded, fits}
use Rattle.shape.proofs.Fields.{and-true, length-item_bits}
use Rattle.shape.proofs.Reading.{Slot, value, with_head, head_read, head-short, refused-on, got-on, never, list-short, list_read, tail-long, tail-got}
use Rattle.shape.proofs.Reading as reading
use Rattle.shape.proofs.Writing.{more, item-bytes, all-bytes}
use Rattle.shape.proofs.CastFacts.{cast}
use Rattle.protocol_debug.specs.LogMessage.{log_message, source_length, source_in, text_in, log_message_of, log_message_in}
use Rattle.protocol_debug.specs.Laws.{log_message_found}
use Rattle.protocol_debug.specs.declared.log_message.LogMessage.{LogMessage}

abbrev text : Shape
text = tail 8 90 anything

abbrev lists : Shape
lists = list 8 31 text

abbrev head : List Slot
head = value 3 ∷ []

pub five : width_of 31 ≡ 5
unfolding width_of width_in
five = refl

pub none : (s : List ℕ) → length s < 1 → 0 ≡ source_length s
unfolding source_length width_of width_in unpack from_bits number value_from
none [] h = refl
none (b ∷ s) h = absurd (omega arith)

module _ (s : List ℕ) (h : 1 ≤ length s) where
  left : length (drop 3 (unpack s)) ≡ length s * 8 - 3
  left = length-drop 3 (unpack s) ∙ ap (λ (k : ℕ). k - 3) (length-unpack s)

  field : width_of 31 ≤ length (drop 3 (unpack s))
  field = omega (arith, five, left)

  behind : drop (width_of 31) (drop 3 (unpack s)) ≡ unpack (drop 1 s)
  behind = rw five (drop-drop 5 3 (unpack s) ∙ drop-unpack 1 s)

  some_below : source_length s < 32
  unfolding source_length width_of width_in
  some_below = from_bits-lt (width_of 31) (drop 3 (unpack s)) field

-- five bits hold the length
pub below : (s : List ℕ) → source_length s < 32
below s = go (ltb (length s) 1) refl where
  go : (b : Bool) → ltb (length s) 1 ≡ b → source_length s < 32
  go true e = omega (arith, none s (ltb-true (length s) 1 e))
  go false e = some_below s (ltb-false (length s) 1 e)

module _ (s : List ℕ) (o : Octets s) where
  abbrev n : ℕ
  n = source_length s

  on : 1 ≤ length s → decoded log_message s ≡ map_answer (with_head head lists (unpack s) 0) (decode lists (drop 3 (unpack s)))
  on h = head_read head lists (unpack s) 0 (omega (arith, length-unpack s))

  is : n ≡ from_bits (width_of 31) (drop 3 (unpack s))
  unfolding source_length
  is = refl

  -- the payload ends before the source does
  ends : length s < 1 + n → decoded log_message s ≡ refused 15
  ends l = go (ltb (length s) 1) refl where
    go : (b : Bool) → ltb (length s) 1 ≡ b → decoded log_message s ≡ refused 15
    go true e = head-short head lists (unpack s) (omega (arith, length-unpack s, ltb-true (length s) 1 e, none s (ltb-true (length s) 1 e)))
    go false e =
        let h : 1 ≤ length s = ltb-false (length s) 1 e in
        refused-on (with_head head lists (unpack s) 0) (on h)
        (list-short 31 text (drop 3 (unpack s)) (field s h) (drop 1 s) (octets-drop 1 s o) (behind s h) n is (omega (arith, length-drop 1 s)))

  pub cut : length s < 1 + n → log_message_in s ≡ numbered (refused 15)
  cut l = ap numbered (refused-on log_message_of refl (ends l))

  module _ (l : 1 + n ≤ length s) where
    abbrev with-source : Values text → Values lists
    with-source v = (source_in s, v)

    source : decode lists (drop 3 (unpack s)) ≡ map_answer with-source (decode text (unpack (text_in s)))
    source =
        list_read 31 text (drop 3 (unpack s)) (field s (omega arith)) (drop 1 s) (octets-drop 1 s o) (behind s (omega arith)) n is (omega (arith, length-drop 1 s))
        (omega (arith, below s))
        ∙ ap (λ (x : List ℕ). map_answer with-source (decode text (unpack x))) (drop-drop n 1 s)

    too_many : 90 < length (text_in s) → decoded log_message s ≡ refused 16
    too_many g = refused-on (with_head head lists (unpack s) 0) (on (omega arith))
        (refused-on with-source source (tail-long 90 anything (text_in s) (octets-drop (1 + n) s o) g))

    read : length (text_in s) ≤ 90 → decoded log_message s ≡ got (log_message_found s)
    read g = got-on (with_head head lists (unpack s) 0) (on (omega arith))
        (got-on with-source source (tail-got 90 anything (text_in s) (octets-drop (1 + n) s o) g refl))

    pub long : 90 < length (text_in s) → log_message_in s ≡ numbered (refused 16)
    long g = ap numbered (refused-on log_message_of refl (too_many g))

    pub held : length (text_in s) ≤ 90 → log_message_in s ≡ numbered (got (log_message_of (log_message_found s)))
    held g = ap numbered (got-on log_message_of refl (read g))

    pub source-len : length (source_in s) ≡ n
    source-len = length-take-le n (drop 1 s) (omega (arith, length-drop 1 s))

  -- nothing else is read
  pub only : (v : Values log_message) → decoded log_message s ≡ got v → v ≡ log_message_found s
  only v e = go (ltb (length s) (1 + n)) (ltb 90 (length (text_in s))) refl refl where
    go : (a b : Bool) → ltb (length s) (1 + n) ≡ a → ltb 90 (length (text_in s)) ≡ b → v ≡ log_message_found s
    go true b ea eb = absurd (never (ends (ltb-true (length s) (1 + n) ea)) e)
    go false true ea eb = absurd (never (too_many (ltb-false (length s) (1 + n) ea) (ltb-true 90 (length (text_in s)) eb)) e)
    go false false ea eb = reading.only e (read (ltb-false (length s) (1 + n) ea) (ltb-false 90 (length (text_in s)) eb))

pub made : {v v' : ℤ} {n a l n' l' : ℕ} → v ≡ v' → n ≡ n' → a ≡ 1 + n' → l ≡ l'
    → ◌≡◌ {A = LogMessage} (record { level = v; source = record { at = 1; len = n }; text = record { at = a; len = l } })
    (record { level = v'; source = record { at = 1; len = n' }; text = record { at = 1 + n'; len = l' } })
made e₁ e₂ e₃ e₄ = cc

module _ (v : ℤ) (xs ys : List ℕ) where
  abbrev level : ℕ
  level = cast 3 v

  pub size : length (encode log_message (v, (xs, ys))) ≡ (1 + length xs + length ys) * 8
  unfolding encode
  size = simp (length-append, length-to_bits, length-item_bits) (omega (arith, five))

  pub fit : Octets xs → Octets ys → leb (length xs) 31 && leb (length ys) 90 ≡ fits log_message (v, (xs, ys))
  unfolding fits
  fit o q = rw (all-bytes xs o, all-bytes ys q) (simp and-true)

  -- w: the width that the code works out
  pub stored : (w : ℕ) → w ≡ width_of 31 → (m₀ m₁ m₂ m₃ m₄ : List ℕ) → 1 + length xs ≤ length m₀ → m₁ ≡ store m₀ 0 (to_bits 3 level)
      → m₂ ≡ store m₁ 3 (to_bits w (length xs))
      → m₃ ≡ store m₂ 8 (unpack xs) → m₄ ≡ store m₃ ((1 + length xs) * 8) (unpack ys) → m₄ ≡ store m₀ 0 (encode log_message (v, (xs, ys)))
  unfolding encode
  stored w e m₀ m₁ m₂ m₃ m₄ h e₁ e₂ e₃ e₄ =
      let a = to_bits 3 level in
      let b = to_bits (width_of 31) (length xs) in
      let f₂ = more m₀ m₁ m₂ a b 3 e₁ (length-to_bits 3 level) (omega arith) (e₂ ∙ ap (λ (k : ℕ). store m₁ 3 (to_bits k (length xs))) e) in
      let f₃ = more m₀ m₂ m₃ (a ++ b) (unpack xs) 8 f₂ (simp (length-append, length-to_bits) (omega (arith, five))) (omega arith) e₃ in
      let l : length ((a ++ b) ++ unpack xs) ≡ (1 + length xs) * 8 = simp (length-append, length-to_bits, length-unpack) (omega (arith, five)) in
      let f₄ = more m₀ m₃ m₄ ((a ++ b) ++ unpack xs) (unpack ys) ((1 + length xs) * 8) f₃ l (omega arith) e₄ in
      f₄ ∙ ap (λ (k : List Bool). store m₀ 0 k) (simp append_assoc) ∙ ap (λ (k : List Bool). store m₀ 0 (a ++ (b ++ (k ++ unpack ys)))) (sym (item-bytes xs))
      ∙ ap (λ (k : List Bool). store m₀ 0 (a ++ (b ++ (item_bits 8 xs ++ k)))) (sym (item-bytes ys))
