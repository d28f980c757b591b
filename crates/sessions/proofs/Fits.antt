-- The range tests of a stream and of a place's control fields, case by case.
use mathlib.Core.Path.{◌≡◌, refl, ap, ap₂, subst, ◌∙◌}
use mathlib.Core.Bool.{Bool, true, false, not, ◌&&◌, ◌||◌, and-true, and-false}
use mathlib.Core.List.{List, [], ◌∷◌}
use Prim.Native.Nat.{ℕ, zero, suc, ◌+◌, ◌*◌, ◌/◌, ◌%◌, ◌≤◌, ◌<◌}
use native.Mathlib.Omega.{arith}
use borrow.Author.Tests.{ltb-true, ltb-false, eqb-true, eqb-false, lt-ltb, le-ltb, le-leb, ne_eqb}
use lib.Dec.{ltb, leb, eqb}
use lib.ListN.{length, get_or}
use lib.Seq.{drop-cons}
use Rattle.bits.specs.Little.{le}
use Rattle.bits.specs.Order.{Octets}
use Rattle.bits.specs.Part.{span}
use Rattle.rules.specs.Limits.{sessions_max, gathered_max}
use Rattle.rules.specs.Sound.{stream_fits}
use Rattle.state.specs.Layout.{size, controls_at, count_at, expected_at, flags_at}
use Rattle.frame.specs.Key.{stream_of_key}
use Rattle.sessions.specs.inside.Sound.{control_fits}
use Rattle.sessions.proofs.Stored.{fields}

-- ── a stream ──

pub unnamed : (k : ℕ) → k / 128 % 128 ≡ 0 → false ≡ stream_fits (stream_of_key k)
unfolding stream_fits stream_of_key
unnamed k e = let s : ltb 0 (k / 128 % 128) ≡ false = le-ltb 0 (k / 128 % 128) (omega arith) in rw s

module _ (k : ℕ) (named : k / 128 % 128 ≡ 0 → ⊥) where
  some : ltb 0 (k / 128 % 128) ≡ true
  some = lt-ltb 0 (k / 128 % 128) (omega arith)

  small : ltb (k / 128 % 128) 128 ≡ true
  small = lt-ltb (k / 128 % 128) 128 (omega arith)

  pub message : k < 0x40000000 → eqb (k % 128) 0 ≡ stream_fits (stream_of_key k)
  unfolding stream_fits stream_of_key
  message h =
      let z : k / 1073741824 ≡ 0 = omega arith in
      let t : ltb (k / 16384 % 65536) 65536 ≡ true = lt-ltb (k / 16384 % 65536) 65536 (omega arith) in
      rw (some, small, z, t)

  service : 0x40000000 ≤ k → k < 0xC0000000 → (b : Bool) → ltb (k / 16384 % 65536) 256 ≡ b → (b && ltb 0 (k % 128)) ≡ stream_fits (stream_of_key k)
  unfolding stream_fits stream_of_key
  service l h b t =
      let three : ltb (k / 1073741824) 3 ≡ true = lt-ltb (k / 1073741824) 3 (omega arith) in
      let z : eqb (k / 1073741824) 0 ≡ false = ne_eqb (k / 1073741824) 0 (λ e. omega arith) in
      let d : ltb (k % 128) 128 ≡ true = lt-ltb (k % 128) 128 (omega arith) in
      rw (some, small, three, z, t, d, and-true)

  pub service-to : 0x40000000 ≤ k → k < 0xC0000000 → k / 16384 % 65536 < 256 → ltb 0 (k % 128) ≡ stream_fits (stream_of_key k)
  service-to l h t = service l h true (lt-ltb (k / 16384 % 65536) 256 t)

  pub service-type : 0x40000000 ≤ k → k < 0xC0000000 → 256 ≤ k / 16384 % 65536 → false ≡ stream_fits (stream_of_key k)
  service-type l h t = service l h false (le-ltb (k / 16384 % 65536) 256 t)

  pub no_kind : 0xC0000000 ≤ k → false ≡ stream_fits (stream_of_key k)
  unfolding stream_fits stream_of_key
  no_kind l = let three : ltb (k / 1073741824) 3 ≡ false = le-ltb (k / 1073741824) 3 (omega arith) in rw (some, small, three)

-- ── control fields ──

octet-at : (m : List ℕ) (j : ℕ) → Octets m → get_or m j 0 < 256
octet-at [] j h = omega arith
octet-at (x ∷ m) zero h = h.0
octet-at (x ∷ m) (suc j) h = octet-at m j h.1

-- two bytes as one number
le-two : (m : List ℕ) (at : ℕ) → at + 1 < length m → le (span m at 2) ≡ get_or m at 0 + 256 * get_or m (at + 1) 0
unfolding le
le-two m at h =
    let e : at + 1 ≡ suc at = omega arith in
    rw (drop-cons m at 0 (omega arith), drop-cons m (suc at) 0 (omega arith), e) (omega arith)

module _ (m : List ℕ) (i n x : ℕ) (bytes : Octets m) (place : i < sessions_max) (long : size ≤ length m) (en : n ≡ count_at m i)
    (ex : x ≡ le (span m (controls_at + i * 4 + 2) 2)) where
  both : x ≡ expected_at m i + 256 * flags_at m i
  both =
      let g = fields m i place long in
      let t : controls_at + i * 4 + 2 + 1 ≡ controls_at + i * 4 + 3 = omega arith in
      ex ∙ le-two m (controls_at + i * 4 + 2) (omega (arith, long, place))
      ∙ ap₂ (λ (y z : ℕ). y + 256 * z) g.0 (ap (λ (y : ℕ). get_or m y 0) t ∙ g.1)

  byte : expected_at m i < 256
  byte = subst (λ (y : ℕ). y < 256) (fields m i place long).0 (octet-at m (controls_at + i * 4 + 2) bytes)

  below : ltb x 1536 ≡ ltb (flags_at m i / 2) 3
  below = go (ltb (flags_at m i / 2) 3) refl
    where
      go : (q : Bool) → ltb (flags_at m i / 2) 3 ≡ q → ltb x 1536 ≡ q
      go true d = lt-ltb x 1536 (omega (arith, both, byte, ltb-true (flags_at m i / 2) 3 d))
      go false d = le-ltb x 1536 (omega (arith, both, byte, ltb-false (flags_at m i / 2) 3 d))

  -- nothing in hand: the toggle is 0
  pub idle-is : n ≡ 0 → (ltb (x % 512) 32 && ltb x 1536) ≡ control_fits m i
  unfolding control_fits
  idle-is z = rw (few, none, below) (go (ltb (expected_at m i) 32) refl (eqb (flags_at m i % 2) 1) refl (ltb (flags_at m i / 2) 3))
    where
      few : leb (count_at m i) gathered_max ≡ true
      few = le-leb (count_at m i) gathered_max (omega (arith, en, z))

      none : ltb 0 (count_at m i) ≡ false
      none = le-ltb 0 (count_at m i) (omega (arith, en, z))

      go : (p : Bool) → ltb (expected_at m i) 32 ≡ p → (t : Bool) → eqb (flags_at m i % 2) 1 ≡ t → (q : Bool)
          → (ltb (x % 512) 32 && q) ≡ (p && (q && (not t || false)))
      go true d false k q = rw (lt-ltb (x % 512) 32 (omega (arith, both, byte, ltb-true (expected_at m i) 32 d, eqb-false (flags_at m i % 2) 1 k)), and-true q)
      go true d true k q = rw (le-ltb (x % 512) 32 (omega (arith, both, byte, eqb-true (flags_at m i % 2) 1 k)), and-false q)
      go false d t k q = rw (le-ltb (x % 512) 32 (omega (arith, both, byte, ltb-false (expected_at m i) 32 d)))

  pub busy-is : (n ≡ 0 → ⊥) → (leb n gathered_max && (ltb (x % 256) 32 && ltb x 1536)) ≡ control_fits m i
  unfolding control_fits
  busy-is z = rw (some_bytes, below, low, ← en) (go (eqb (flags_at m i % 2) 1))
    where
      some_bytes : ltb 0 (count_at m i) ≡ true
      some_bytes = lt-ltb 0 (count_at m i) (omega (arith, en, z))

      low : x % 256 ≡ expected_at m i
      low = omega (arith, both, byte)

      go : (t : Bool)
          → (leb n gathered_max && (ltb (expected_at m i) 32 && ltb (flags_at m i / 2) 3)) ≡ (leb n gathered_max && (ltb (expected_at m i) 32 && (ltb (flags_at m i / 2) 3 && (not t || true))))
      go true = rw (and-true (ltb (flags_at m i / 2) 3))
      go false = rw (and-true (ltb (flags_at m i / 2) 3))
