-- The test of a lent map, place by place.
use mathlib.Core.Path.{◌≡◌, refl, sym, ap, ap₂, ◌∙◌}
use mathlib.Core.Bool.{Bool, true, false, false≢true, ◌&&◌, ◌||◌, and-false}
use mathlib.Core.List.{List}
use mathlib.Mathlib.Data.Bool.Basic.{and_elim_left}
use Prim.Native.Nat.{ℕ, zero, suc, ◌+◌, ◌*◌, ◌-◌, ◌/◌, ◌%◌, ◌≤◌, ◌<◌}
use native.Mathlib.Omega.{arith}
use borrow.Author.Tests.{eq-eqb, ne_eqb, eqb-true, eqb-false, le-leb, lt-leb, leb-true, lt-ltb, le-ltb, ltb-true, ltb-false}
use lib.Dec.{eqb, ltb}
use lib.ListN.{length}
use mir.Val.{bool_byte}
use Rattle.rules.specs.Limits.{entries_max}
use Rattle.bits.specs.Tabulate.{tabulate, every}
use Rattle.bits.proofs.Every.{every-at, every-join}
use Rattle.id_map.specs.Layout.{size, key_at, next_at, topic_of_key, slot_at, map_of}
use Rattle.id_map.specs.Sound.{sound_map}
use Rattle.id_map.specs.inside.Sound.{empty_or_fits, keys_of}
use Rattle.id_map.proofs.Keys.{of-key, slot-used, slot-free}
use Rattle.id_map.proofs.Seek.{length-map_of}
use Rattle.id_map.proofs.Written.{OddFrom}
use Rattle.keys.specs.inside.Keys.{count, distinct}
use Rattle.keys.proofs.Distinct.{every-alone}
use Rattle.rules.specs.Map.{topic_fits, times, slot_fits, slots_fit, sound}
use Rattle.rules.specs.Sent.{flag}

-- ── a key in range ──

-- the destination of a key
abbrev aim : ℕ → ℕ
aim k = k / 2 % 128 + 128 * (1 - k % 2)

module _ (k : ℕ) where
  halves : k / 2 / 128 ≡ k / 256
  halves = omega arith

  aim-odd : k % 2 ≡ 1 → aim k ≡ k / 2 % 128
  aim-odd o = omega arith

  aim-even : k % 2 ≡ 0 → 128 ≤ aim k
  aim-even o = omega arith

  -- a key's low byte is 1 exactly if its destination is 0
  aim-none : k % 256 ≡ 1 → aim k ≡ 0
  aim-none e =
      let h = halves in
      let o : k % 2 ≡ 1 = omega arith in
      let d : k / 2 % 128 ≡ 0 = omega arith in
      aim-odd o ∙ d

  low-one : aim k ≡ 0 → k % 256 ≡ 1
  low-one e =
      let h = halves in
      let o : k % 2 ≡ 1 = omega arith in
      let d : k / 2 % 128 ≡ 0 = omega arith in
      omega arith

  pub message-key : k < 16777216 → eqb (k % 256) 1 ≡ topic_fits (topic_of_key k)
  unfolding topic_fits topic_of_key
  message-key h =
      let z : k / 16777216 ≡ 0 = omega arith in
      rw (z, lt-ltb (k / 256 % 65536) 65536 (omega arith)) (go (eqb (k % 256) 1) refl)
    where
      go : (b : Bool) → eqb (k % 256) 1 ≡ b → b ≡ eqb (aim k) 0
      go true e = sym (eq-eqb (aim k) 0 (aim-none (eqb-true (k % 256) 1 e)))
      go false e = sym (ne_eqb (aim k) 0 (λ q. eqb-false (k % 256) 1 e (low-one q)))

  module _ (h : 16777216 ≤ k) where
    no-message : eqb (k / 16777216) 0 ≡ false
    no-message = ne_eqb (k / 16777216) 0 (λ e. omega arith)

    pub request-key : k < 16842752 → k % 256 % 2 ≡ 1 → ltb 1 (k % 256) ≡ topic_fits (topic_of_key k)
    unfolding topic_fits topic_of_key
    request-key l o =
        let one : k / 16777216 ≡ 1 = omega arith in
        let q : k / 256 ≡ 65536 + (k / 256 - 65536) = omega arith in
        let t : k / 256 % 65536 < 256 = rw q (omega arith) in
        let p : k % 2 ≡ 1 = omega arith in
        rw (one, lt-ltb (k / 256 % 65536) 256 t, aim-odd p, lt-ltb (k / 2 % 128) 128 (omega arith)) (go p (ltb 1 (k % 256)) refl)
      where
        go : k % 2 ≡ 1 → (b : Bool) → ltb 1 (k % 256) ≡ b → b ≡ (ltb 0 (k / 2 % 128) && true)
        go p true e =
            let w = ltb-true 1 (k % 256) e in
            let h = halves in
            rw (lt-ltb 0 (k / 2 % 128) (omega arith))
        go p false e =
            let w = ltb-false 1 (k % 256) e in
            let h = halves in
            rw (le-ltb 0 (k / 2 % 128) (omega arith))

    pub even-key : (k % 256 % 2 ≡ 1 → ⊥) → false ≡ topic_fits (topic_of_key k)
    unfolding topic_fits topic_of_key
    even-key o =
        let p : k % 2 ≡ 0 = omega arith in
        let f : ltb (aim k) 128 ≡ false = le-ltb (aim k) 128 (aim-even p) in
        rw (no-message, f) (sym (three (eqb (k / 16777216) 1) (ltb (k / 256 % 65536) 256) (ltb 0 (aim k))))
      where
        three : (a b c : Bool) → (a && (b && (c && false))) ≡ false
        three true true c = and-false c
        three true false c = refl
        three false b c = refl

    pub large-key : 16842752 ≤ k → false ≡ topic_fits (topic_of_key k)
    unfolding topic_fits topic_of_key
    large-key l = rw no-message (go (eqb (k / 16777216) 1) refl) where
      rest : Bool
      rest = ltb 0 (aim k) && ltb (aim k) 128

      go : (b : Bool) → eqb (k / 16777216) 1 ≡ b → false ≡ (b && (ltb (k / 256 % 65536) 256 && rest))
      go false e = refl
      go true e =
          let one = eqb-true (k / 16777216) 1 e in
          let q : k / 256 ≡ 65536 + (k / 256 - 65536) = omega arith in
          let u : k / 256 - 65536 < 65536 = omega arith in
          let t : 256 ≤ k / 256 % 65536 = rw q (omega arith) in
          rw (le-ltb (k / 256 % 65536) 256 t)

-- a key in range is odd
pub fits-odd : (k : ℕ) → topic_fits (topic_of_key k) ≡ true → k % 2 ≡ 1
fits-odd k e = go (ltb k 16777216) refl where
  go : (b : Bool) → ltb k 16777216 ≡ b → k % 2 ≡ 1
  go true l = let z = eqb-true (k % 256) 1 (message-key k (ltb-true k 16777216 l) ∙ e) in omega arith
  go false l = odd (eqb (k % 256 % 2) 1) refl where
    odd : (b : Bool) → eqb (k % 256 % 2) 1 ≡ b → k % 2 ≡ 1
    odd true q = let w = eqb-true (k % 256 % 2) 1 q in omega arith
    odd false q = absurd (false≢true (even-key k (ltb-false k 16777216 l) (eqb-false (k % 256 % 2) 1 q) ∙ e))

-- ── one place ──

flag-byte : (b : Bool) → flag b ≡ bool_byte b
flag-byte true = refl
flag-byte false = refl

module _ (m : List ℕ) where
  -- a topic has an entry for each time that its key is among the keys
  times-count : (k : ℕ) → (k ≡ 0 → ⊥) → (n i : ℕ) → times (topic_of_key k) (tabulate (slot_at m) i n) ≡ count k (tabulate (key_at m) i n)
  unfolding times count tabulate
  times-count k z zero i = refl
  times-count k z (suc n) i = ap₂ ◌+◌ (ap flag (of-key m i k z) ∙ flag-byte (eqb (key_at m i) k)) (times-count k z n (suc i))

  -- what the rules ask of place i: that it fits, and that it is alone with its key
  slot-fits : (i : ℕ) → (empty_or_fits m i && (eqb (key_at m i) 0 || eqb (count (key_at m i) (keys_of m)) 1)) ≡ slot_fits (map_of m) (slot_at m i)
  unfolding empty_or_fits map_of
  slot-fits i = go (eqb (key_at m i) 0) refl where
    regroup : (a b c : Bool) → ((a && b) && c) ≡ (a && (b && c))
    regroup true b c = refl
    regroup false b c = refl

    go : (b : Bool) → eqb (key_at m i) 0 ≡ b
        → ((b || (topic_fits (topic_of_key (key_at m i)) && ltb (next_at m i) 32)) && (b || eqb (count (key_at m i) (keys_of m)) 1)) ≡ slot_fits (map_of m) (slot_at m i)
    go true e = sym (ap (slot_fits (map_of m)) (slot-free m i (eqb-true (key_at m i) 0 e)))
    go false e =
        let z = eqb-false (key_at m i) 0 e in
        regroup (topic_fits (topic_of_key (key_at m i))) (ltb (next_at m i) 32) (eqb (count (key_at m i) (keys_of m)) 1)
        ∙ ap (λ n. topic_fits (topic_of_key (key_at m i)) && (ltb (next_at m i) 32 && eqb n 1)) (sym (times-count (key_at m i) z entries_max 0))
        ∙ sym (ap (slot_fits (map_of m)) (slot-used m i z))

  -- ── all places ──

  every-fits : (n i : ℕ) → every (λ l. slot_fits (map_of m) (slot_at m l)) i n ≡ slots_fit (map_of m) (tabulate (slot_at m) i n)
  unfolding every tabulate
  every-fits zero i = refl
  every-fits (suc n) i = ap (λ b. slot_fits (map_of m) (slot_at m i) && b) (every-fits n (suc i))

  sound-is : size ≤ length m → sound_map m ≡ slots_fit (map_of m) (tabulate (slot_at m) 0 entries_max)
  unfolding sound_map sound map_of
  sound-is h = rw (le-leb size (length m) h, eq-eqb (length (map_of m)) entries_max (length-map_of m))

  pub whole : size ≤ length m → (every (empty_or_fits m) 0 entries_max && distinct (keys_of m)) ≡ sound_map m
  whole h =
      ap (λ b. every (empty_or_fits m) 0 entries_max && b) (sym (every-alone (key_at m) entries_max))
      ∙ every-join (empty_or_fits m) (λ i. eqb (key_at m i) 0 || eqb (count (key_at m i) (keys_of m)) 1) (λ i. slot_fits (map_of m) (slot_at m i)) entries_max 0 (λ l a b. slot-fits l)
      ∙ every-fits entries_max 0 ∙ sym (sound-is h)

  pub sound-short : length m < size → sound_map m ≡ false
  unfolding sound_map
  sound-short h = rw (lt-leb size (length m) h)

-- ── what a map without a fault gives ──

module _ (m : List ℕ) (fine : sound_map m ≡ true) where
  pub long-enough : size ≤ length m
  unfolding sound_map
  long-enough = leb-true size (length m) (and_elim_left _ _ fine)

  all-fit : slots_fit (map_of m) (map_of m) ≡ true
  unfolding map_of
  all-fit = sym (sound-is m long-enough) ∙ fine

  pub slot-fit : (l : ℕ) → l < entries_max → slot_fits (map_of m) (slot_at m l) ≡ true
  unfolding map_of
  slot-fit l h = every-at (λ i. slot_fits (map_of m) (slot_at m i)) entries_max 0 (every-fits m entries_max 0 ∙ all-fit) l (omega arith) (omega arith)

  pub keys-odd : OddFrom m 0
  keys-odd l a h z = fits-odd (key_at m l) (and_elim_left _ _ (ap (slot_fits (map_of m)) (sym (slot-used m l z)) ∙ slot-fit l h))
