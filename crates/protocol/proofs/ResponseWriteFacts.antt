-- GetNodeInfo's response: what its writer goes by.
use mathlib.Core.Path.{◌≡◌, refl, sym, ap, ◌∙◌}
use mathlib.Core.Bool.{Bool, true, false, ◌&&◌}
use mathlib.Core.List.{List, [], ◌++◌, append_assoc, append-nil}
use Prim.Native.Nat.{ℕ, ◌+◌, ◌*◌, ◌≤◌, ◌<◌}
use native.Mathlib.Omega.{arith}
use borrow.Author.Tests.{lt-ltb, le-leb, lt-leb, leb-true, eq-eqb, ne_eqb, eqb-true}
use lib.Dec.{leb, eqb}
use lib.ListN.{length, length-append}
use Rattle.bits.specs.Order.{Octets, unpack, to_bits, store}
use Rattle.bits.specs.Width.{width_of}
use Rattle.bits.proofs.Bytes.{length-unpack}
use Rattle.bits.proofs.Numbers.{length-to_bits}
use Rattle.shape.specs.Shape.{Shape, end, Values, all_below, encode, fits}
use Rattle.shape.proofs.Fields.{and_left, and_right, length-item_bits}
use Rattle.shape.proofs.Writing.{more, more-from, item-bytes, all-bytes}
use Rattle.shape.proofs.CastFacts.{cast}
use Rattle.protocol.specs.NodeStatus.{node_status, status_then, status_values}
use Rattle.protocol.specs.declared.node_status.NodeStatus.{NodeStatus}
use Rattle.protocol.specs.Name.{is_name}
use Rattle.protocol.specs.GetNodeInfoResponse.{versions_then, lists, response, version_values, number_values}
use Rattle.protocol.specs.declared.get_node_info_response.Numbers.{Numbers}
use Rattle.protocol.proofs.ResponseReadFacts.{eight}

-- ── a status, and what follows it ──

size-status : (x : NodeStatus) → length (encode node_status (status_values x end tt)) ≡ 56
unfolding encode
size-status x = simp (length-append, length-to_bits)

status-bits : (x : NodeStatus) (d : Shape) (v : Values d) → encode (status_then d) (status_values x d v) ≡ encode node_status (status_values x end tt) ++ encode d v
unfolding encode
status-bits x d v = sym (simp (append_assoc, append-nil))

-- ── the numbers, and what follows them ──

abbrev version_bits : Numbers → List Bool → List Bool
version_bits m r =
    to_bits 8 (cast 8 m.software_version.major) ++ (to_bits 8 (cast 8 m.software_version.minor) ++ (to_bits 8 (cast 8 m.software_version.optional_field_flags) ++ (to_bits 32 (cast 32 m.software_version.vcs_commit)
    ++ (to_bits 64 m.software_version.image_crc ++ (to_bits 8 (cast 8 m.hardware_version_major) ++ (to_bits 8 (cast 8 m.hardware_version_minor) ++ r))))))

abbrev numbers : Shape
numbers = status_then (versions_then end)

module _ (m : Numbers) where
  abbrev bits-of-status : List Bool
  bits-of-status = encode node_status (status_values m.status end tt)

  module _ (d : Shape) (v : Values d) where
    versions-bits : encode (versions_then d) (version_values m d v) ≡ version_bits m (encode d v)
    unfolding encode
    versions-bits = refl

    then-bits : encode (status_then (versions_then d)) (number_values m d v) ≡ bits-of-status ++ version_bits m (encode d v)
    then-bits = status-bits m.status (versions_then d) (version_values m d v) ∙ ap (λ (b : List Bool). bits-of-status ++ b) versions-bits

  end-bits : encode end tt ≡ []
  unfolding encode
  end-bits = refl

  numbers-bits : encode numbers (number_values m end tt) ≡ bits-of-status ++ version_bits m []
  numbers-bits = then-bits end tt ∙ ap (λ (b : List Bool). bits-of-status ++ version_bits m b) end-bits

  numbers-size : length (encode numbers (number_values m end tt)) ≡ 192
  unfolding encode
  numbers-size = simp (length-append, length-to_bits)

  module _ (v : Values lists) where
    -- 64 bits hold every image CRC
    pub whole-fits : m.software_version.image_crc < 18446744073709551616 → fits response (number_values m lists v) ≡ fits lists v
    unfolding fits
    whole-fits h = rw (lt-ltb m.software_version.image_crc 18446744073709551616 h)

  whole-bits : (v : Values lists) → encode response (number_values m lists v) ≡ encode numbers (number_values m end tt) ++ encode lists v
  whole-bits v = then-bits lists v ∙ sym (ap (λ (b : List Bool). b ++ encode lists v) numbers-bits ∙ simp (append_assoc, append-nil))

  pub stored-numbers : (m₀ m₁ m₂ m₃ m₄ m₅ m₆ m₇ m₈ : List ℕ) → 24 ≤ length m₀ → m₁ ≡ store m₀ 0 bits-of-status → m₂ ≡ store m₁ 56 (to_bits 8 (cast 8 m.software_version.major))
      → m₃ ≡ store m₂ 64 (to_bits 8 (cast 8 m.software_version.minor)) → m₄ ≡ store m₃ 72 (to_bits 8 (cast 8 m.software_version.optional_field_flags)) → m₅ ≡ store m₄ 80 (to_bits 32 (cast 32 m.software_version.vcs_commit))
      → m₆ ≡ store m₅ 112 (to_bits 64 m.software_version.image_crc) → m₇ ≡ store m₆ 176 (to_bits 8 (cast 8 m.hardware_version_major)) → m₈ ≡ store m₇ 184 (to_bits 8 (cast 8 m.hardware_version_minor))
      → m₈ ≡ store m₀ 0 (encode numbers (number_values m end tt))
  stored-numbers m₀ m₁ m₂ m₃ m₄ m₅ m₆ m₇ m₈ h e₁ e₂ e₃ e₄ e₅ e₆ e₇ e₈ =
      let s = bits-of-status in
      let a = to_bits 8 (cast 8 m.software_version.major) in
      let b = to_bits 8 (cast 8 m.software_version.minor) in
      let c = to_bits 8 (cast 8 m.software_version.optional_field_flags) in
      let d = to_bits 32 (cast 32 m.software_version.vcs_commit) in
      let e = to_bits 64 m.software_version.image_crc in
      let f = to_bits 8 (cast 8 m.hardware_version_major) in
      let g = to_bits 8 (cast 8 m.hardware_version_minor) in
      let f₂ = more m₀ m₁ m₂ s a 56 e₁ (size-status m.status) (omega arith) e₂ in
      let f₃ = more m₀ m₂ m₃ (s ++ a) b 64 f₂ (simp (length-append, length-to_bits, size-status)) (omega arith) e₃ in
      let f₄ = more m₀ m₃ m₄ (s ++ a ++ b) c 72 f₃ (simp (length-append, length-to_bits, size-status)) (omega arith) e₄ in
      let f₅ = more m₀ m₄ m₅ (s ++ a ++ b ++ c) d 80 f₄ (simp (length-append, length-to_bits, size-status)) (omega arith) e₅ in
      let f₆ = more m₀ m₅ m₆ (s ++ a ++ b ++ c ++ d) e 112 f₅ (simp (length-append, length-to_bits, size-status)) (omega arith) e₆ in
      let f₇ = more m₀ m₆ m₇ (s ++ a ++ b ++ c ++ d ++ e) f 176 f₆ (simp (length-append, length-to_bits, size-status)) (omega arith) e₇ in
      let f₈ = more m₀ m₇ m₈ (s ++ a ++ b ++ c ++ d ++ e ++ f) g 184 f₇ (simp (length-append, length-to_bits, size-status)) (omega arith) e₈ in
      f₈ ∙ ap (λ (l : List Bool). store m₀ 0 l) (sym (numbers-bits ∙ sym (simp (append_assoc, append-nil))))

-- ── the lists ──

module _ (u c n : List ℕ) where
  size-lists : length u ≡ 16 → length (encode lists (u, (c, n))) ≡ (17 + length c + length n) * 8
  unfolding encode
  size-lists h = simp (length-append, length-to_bits, length-item_bits) (omega (arith, eight))

  lists-are : fits lists (u, (c, n)) ≡ eqb (length u) 16 &&
      (all_below 256 u && (leb (length c) 255 && (all_below 256 c && (leb (length n) 80 && (all_below 256 n && is_name n)))))
  unfolding fits
  lists-are = refl

  pub no-id : (length u ≡ 16 → ⊥) → false ≡ fits lists (u, (c, n))
  no-id h = sym (lists-are ∙ rw (ne_eqb (length u) 16 h))

  module _ (ou : Octets u) (h : length u ≡ 16) where
    pub no-certificate : 255 < length c → false ≡ fits lists (u, (c, n))
    no-certificate k = sym (lists-are ∙ rw (eq-eqb (length u) 16 h, all-bytes u ou, lt-leb (length c) 255 k))

    module _ (oc : Octets c) (k : length c ≤ 255) where
      pub no_name : 80 < length n → false ≡ fits lists (u, (c, n))
      no_name l = sym (lists-are ∙ rw (eq-eqb (length u) 16 h, all-bytes u ou, le-leb (length c) 255 k, all-bytes c oc, lt-leb (length n) 80 l))

      pub by_name : Octets n → length n ≤ 80 → is_name n ≡ fits lists (u, (c, n))
      by_name on l = sym (lists-are ∙ rw (eq-eqb (length u) 16 h, all-bytes u ou, le-leb (length c) 255 k, all-bytes c oc, le-leb (length n) 80 l, all-bytes n on))

  -- what lists that fit tell
  pub record Sizes : Type 0 where
    pub id : length u ≡ 16
    pub certificate : length c ≤ 255
    pub name : length n ≤ 80

  pub sizes : fits lists (u, (c, n)) ≡ true → Sizes
  sizes e =
      let f₁ = sym lists-are ∙ e in
      let f₂ = and_right (all_below 256 u) (leb (length c) 255 && (all_below 256 c && (leb (length n) 80 && (all_below 256 n && is_name n))))
      (and_right (eqb (length u) 16) (all_below 256 u && (leb (length c) 255 && (all_below 256 c && (leb (length n) 80 && (all_below 256 n && is_name n))))) f₁) in
      let f₃ = and_right (all_below 256 c) (leb (length n) 80 && (all_below 256 n && is_name n))
      (and_right (leb (length c) 255) (all_below 256 c && (leb (length n) 80 && (all_below 256 n && is_name n))) f₂) in
      record {
        id = eqb-true (length u) 16
            (and_left (eqb (length u) 16) (all_below 256 u && (leb (length c) 255 && (all_below 256 c && (leb (length n) 80 && (all_below 256 n && is_name n))))) f₁);
        certificate = leb-true (length c) 255 (and_left (leb (length c) 255) (all_below 256 c && (leb (length n) 80 && (all_below 256 n && is_name n))) f₂);
        name = leb-true (length n) 80 (and_left (leb (length n) 80) (all_below 256 n && is_name n) f₃);
      }

  -- w: the width that the code works out
  pub stored-lists : (w : ℕ) → w ≡ width_of 255 → (m₀ m₁ m₂ m₃ m₄ : List ℕ) → length u ≡ 16 → 41 + length c ≤ length m₀ → m₁ ≡ store m₀ 192 (unpack u)
      → m₂ ≡ store m₁ 320 (to_bits w (length c)) → m₃ ≡ store m₂ 328 (unpack c) → m₄ ≡ store m₃ ((41 + length c) * 8) (unpack n)
      → m₄ ≡ store m₀ 192 (encode lists (u, (c, n)))
  unfolding encode
  stored-lists w e m₀ m₁ m₂ m₃ m₄ h k e₁ e₂ e₃ e₄ =
      let a = unpack u in
      let b = to_bits (width_of 255) (length c) in
      let l₁ : 192 + length a ≡ 320 = omega (arith, length-unpack u) in
      let l₂ : 192 + length (a ++ b) ≡ 328 = simp (length-append, length-to_bits, length-unpack) (omega (arith, eight)) in
      let l₃ : 192 + length (a ++ b ++ unpack c) ≡ (41 + length c) * 8 = simp (length-append, length-to_bits, length-unpack) (omega (arith, eight)) in
      let f₂ = more-from 192 m₀ m₁ m₂ a b 320 e₁ l₁ (omega arith) (e₂ ∙ ap (λ (j : ℕ). store m₁ 320 (to_bits j (length c))) e) in
      let f₃ = more-from 192 m₀ m₂ m₃ (a ++ b) (unpack c) 328 f₂ l₂ (omega arith) e₃ in
      let f₄ = more-from 192 m₀ m₃ m₄ (a ++ b ++ unpack c) (unpack n) ((41 + length c) * 8) f₃ l₃ (omega arith) e₄ in
      f₄ ∙ ap (λ (l : List Bool). store m₀ 192 l) (sym (rw (item-bytes u, item-bytes c, item-bytes n) (sym (simp append_assoc))))

-- ── the whole response ──

module _ (m : Numbers) (u c n : List ℕ) (h : length u ≡ 16) where
  pub size : length (encode response (number_values m lists (u, (c, n)))) ≡ (41 + length c + length n) * 8
  size = ap (λ (b : List Bool). length b) (whole-bits m (u, (c, n))) ∙ length-append (encode numbers (number_values m end tt)) (encode lists (u, (c, n)))
      ∙ omega (arith, numbers-size m, size-lists u c n h)

  pub stored : (m₀ m₁ m₂ : List ℕ) → 24 ≤ length m₀ → m₁ ≡ store m₀ 0 (encode numbers (number_values m end tt)) → m₂ ≡ store m₁ 192 (encode lists (u, (c, n)))
      → m₂ ≡ store m₀ 0 (encode response (number_values m lists (u, (c, n))))
  stored m₀ m₁ m₂ k e₁ e₂ =
      more m₀ m₁ m₂ (encode numbers (number_values m end tt)) (encode lists (u, (c, n))) 192 e₁ (numbers-size m) (omega arith) e₂
      ∙ ap (λ (b : List Bool). store m₀ 0 b) (sym (whole-bits m (u, (c, n))))
