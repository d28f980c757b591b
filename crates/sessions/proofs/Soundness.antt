-- The test of a lent state as the code goes, each place, all keys and all blocks, is the test of its table.
use mathlib.Core.Path.{◌≡◌, refl, sym, ap, ap₂, subst, ◌∙◌}
use mathlib.Core.Bool.{Bool, true, false, not, ◌&&◌, ◌||◌, and-false, and-true}
use mathlib.Core.List.{List, [], ◌∷◌}
use Prim.Native.Nat.{ℕ, zero, suc, ◌+◌, ◌/◌, ◌%◌, ◌^◌, ◌≤◌, ◌<◌}
use native.Mathlib.Nat.{zero-add}
use native.Mathlib.Omega.{arith}
use borrow.Author.Tests.{eq-eqb, ne_eqb, eqb-true, eqb-false, leb-true, lt-ltb}
use lib.Dec.{eqb, ltb, leb}
use lib.ListN.{length}
use mir.Val.{bool_byte}
use Rattle.rules.specs.Limits.{sessions_max, gathered_max, interfaces_max, blocks_max}
use Rattle.bits.specs.Order.{Octets}
use Rattle.bits.specs.Part.{span}
use Rattle.bits.specs.Tabulate.{tabulate, every}
use Rattle.bits.proofs.Every.{every-join}
use Rattle.bits.proofs.Splice.{length-span}
use Rattle.bits.proofs.Little.{le-lt}
use Rattle.bits.proofs.Octets.{octets-span}
use Rattle.keys.specs.inside.Keys.{count, distinct}
use Rattle.rules.specs.Sound.{stream_fits, session_fits, place_fits, places_fit, none_holds, not_again, apart, blocks_fit, sound}
use Rattle.rules.proofs.Shares.{fit-shared}
use Rattle.rules.specs.Blocks.{need, blocks_in, used}
use Rattle.rules.specs.Table.{Place, empty, held, holds}
use Rattle.rules.specs.Tests.{is_empty}
use Rattle.sessions.specs.inside.Sound.{control_fits, empty_or_fits, keys_of, shares}
use Rattle.state.specs.Layout.{size, free_at, free_of, key_at, count_at, expected_at, flags_at, blocks_of, gathered_at, session_at, place_at, places_of}
use Rattle.state.specs.Place.{free_set}
use Rattle.state.specs.inside.Ready.{Small}
use Rattle.frame.specs.Key.{stream_of_key}
use Rattle.state.specs.Sound.{raw_fits, free_fits}
use Rattle.state.proofs.Good.{small_at}
use Rattle.state.proofs.Table.{place_of, length-places}
use Rattle.state.proofs.View.{list_length, gathered-length}
use Rattle.sessions.proofs.Shares.{claimed-all}
use Rattle.state.proofs.Soundness.{fit-every, key-lt, holds-key}

-- ── Booleans ──

shuffle : (a b c : Bool) → (a && (b && c)) ≡ (b && (a && c))
shuffle true true c = refl
shuffle true false c = refl
shuffle false true c = refl
shuffle false false c = refl

regroup : (a b c : Bool) → ((a && b) && c) ≡ (a && (b && c))
regroup true b c = refl
regroup false b c = refl

module _ (m : List ℕ) (bytes : Octets m) (long : size ≤ length m) where
  -- ── no stream twice ──

  none-behind : (k : ℕ) → (k ≡ 0 → ⊥) → k < 4294967296 → (n i : ℕ) → i + n ≤ sessions_max
      → none_holds (stream_of_key k) (tabulate (place_at m) i n) ≡ eqb (count k (tabulate (key_at m) i n)) 0
  unfolding count tabulate
  none-behind k z hk zero i h = refl
  none-behind k z hk (suc n) i h =
      let e : holds (stream_of_key k) (place_at m i) ≡ eqb (key_at m i) k = holds-key m bytes long k i z hk (omega arith) in
      rw (e, none-behind k z hk n (suc i) (omega arith)) (go (eqb (key_at m i) k) (count k (tabulate (key_at m) (suc i) n)))
    where
      go : (b : Bool) (t : ℕ) → (not b && eqb t 0) ≡ eqb (bool_byte b + t) 0
      go true t = sym (ne_eqb (1 + t) 0 (λ e. omega arith))
      go false t = ap (λ (x : ℕ). eqb x 0) (sym (zero-add t))

  -- ── the control fields ──

  some-count : (n : ℕ) → not (eqb n 0) ≡ ltb 0 n
  some-count zero = refl
  some-count (suc n) =
      let e : eqb (suc n) 0 ≡ false = ne_eqb (suc n) 0 (λ z. omega arith) in
      let l : ltb 0 (suc n) ≡ true = lt-ltb 0 (suc n) (omega arith) in
      rw (e, l)

  empty-count : (xs : List ℕ) → is_empty xs ≡ eqb (length xs) 0
  empty-count [] = refl
  empty-count (x ∷ xs) = sym (ne_eqb (suc (length xs)) 0 (λ e. omega arith))

  -- where the numbers of its blocks are such
  controls : (i : ℕ) → i < sessions_max → Small (blocks_of m i)
      → (leb (count_at m i) gathered_max && (session_fits (session_at m i) && eqb (length (blocks_of m i)) (need (length (gathered_at m i))))) ≡ control_fits m i
  unfolding session_fits session_at control_fits
  controls i h s =
      go (count_at m i) (gathered_at m i) (length (blocks_of m i)) (λ l. gathered-length m i long h bytes l s) (λ l. list_length m i long h bytes l) (leb (count_at m i) gathered_max) refl
    where
      t : Bool
      t = not (eqb (flags_at m i % 2) 1)

      go : (n : ℕ) (g : List ℕ) (k : ℕ) → (n ≤ gathered_max → length g ≡ n) → (n ≤ gathered_max → k ≡ need n) → (b : Bool) → leb n gathered_max ≡ b
          → (b && (((ltb (expected_at m i) 32 && ltb (flags_at m i / 2) interfaces_max) && (leb (length g) gathered_max && (t || not (is_empty g)))) && eqb k (need (length g))))
          ≡ (b && (ltb (expected_at m i) 32 && (ltb (flags_at m i / 2) interfaces_max && (t || ltb 0 n))))
      go n g k q z false e = refl
      go n g k q z true e =
          let c : length g ≡ n = q (leb-true n gathered_max e) in
          let d : eqb k (need n) ≡ true = eq-eqb k (need n) (z (leb-true n gathered_max e)) in
          rw (empty-count g, c, e, d, some-count n, and-true) (regroup (ltb (expected_at m i) 32) (ltb (flags_at m i / 2) interfaces_max) (t || ltb 0 n))

  controls-at : (i : ℕ) → i < sessions_max → Small (blocks_of m i)
      → (leb (count_at m i) gathered_max && (session_fits (session_at m i) && eqb (length (blocks_of m i)) (need (length (session_at m i).gathered)))) ≡ control_fits m i
  unfolding session_at
  controls-at i h s = controls i h s

  -- ── one place, and all ──

  held_place : (i : ℕ) → (key_at m i ≡ 0 → ⊥) → place_at m i ≡ held (stream_of_key (key_at m i)) (session_at m i) (blocks_of m i)
  unfolding place_at
  held_place i z = rw (ne_eqb (key_at m i) 0 z)

  empty-place : (i : ℕ) → key_at m i ≡ 0 → place_at m i ≡ empty
  unfolding place_at
  empty-place i z = rw (eq-eqb (key_at m i) 0 z)

  apart_distinct : (n i : ℕ) → i + n ≤ sessions_max → apart (tabulate (place_at m) i n) ≡ distinct (tabulate (key_at m) i n)
  unfolding distinct tabulate
  apart_distinct zero i h = refl
  apart_distinct (suc n) i h = ap₂ (λ a b. a && b) (go (eqb (key_at m i) 0) refl) (apart_distinct n (suc i) (omega arith)) where
    go : (b : Bool) → eqb (key_at m i) 0 ≡ b → not_again (place_at m i) (tabulate (place_at m) (suc i) n) ≡ (b || eqb (count (key_at m i) (tabulate (key_at m) (suc i) n)) 0)
    go true e = rw (empty-place i (eqb-true (key_at m i) 0 e))
    go false e =
        let z = eqb-false (key_at m i) 0 e in
        rw (held_place i z) (none-behind (key_at m i) z (key-lt m bytes long i (omega arith)) n (suc i) (omega arith))

  -- ── all blocks ──

  free-word : free_of m < 2 ^ blocks_max
  unfolding free_of
  free-word =
      let n : length (span m free_at 8) ≡ 8 = length-span m free_at 8 (omega arith) in
      rw n at (le-lt (span m free_at 8) (octets-span m free_at 8 bytes))

  shares-is : shares m ≡ (free_fits m && blocks_fit (used (places_of m)))
  unfolding shares free_set
  shares-is = claimed-all (used (places_of m)) (free_of m) free-word

  module _ (fit : blocks_fit (used (places_of m)) ≡ true) where
    numbers : (i : ℕ) → i < sessions_max → (key_at m i ≡ 0 → ⊥) → Small (blocks_of m i)
    numbers i h z =
        subst (λ (p : Place). Small (blocks_in p)) (place_of m i h ∙ held_place i z) (small_at (places_of m) i (fit-shared (used (places_of m)) fit))

    fits-here : (i : ℕ) → i < sessions_max → (raw_fits m i && place_fits (place_at m i)) ≡ empty_or_fits m i
    unfolding raw_fits empty_or_fits
    fits-here i h = go (eqb (key_at m i) 0) refl where
      go : (b : Bool) → eqb (key_at m i) 0 ≡ b
          → ((b || leb (count_at m i) gathered_max) && place_fits (place_at m i)) ≡ (b || (stream_fits (stream_of_key (key_at m i)) && control_fits m i))
      go true e = rw (empty-place i (eqb-true (key_at m i) 0 e))
      go false e =
          let s = stream_fits (stream_of_key (key_at m i)) in
          let z = eqb-false (key_at m i) 0 e in
          rw (held_place i z)
          (shuffle (leb (count_at m i) gathered_max) s (session_fits (session_at m i) && eqb (length (blocks_of m i)) (need (length (session_at m i).gathered))) ∙ ap (λ b. s && b) (controls-at i h (numbers i h z)))

    table : (every (empty_or_fits m) 0 sessions_max && distinct (keys_of m)) ≡ (every (raw_fits m) 0 sessions_max && (places_fit (places_of m) && apart (places_of m)))
    unfolding places_of
    table =
        let raw = every (raw_fits m) 0 sessions_max in
        let fits = every (λ i. place_fits (place_at m i)) 0 sessions_max in
        ap₂ (λ a b. a && b) (sym (every-join (raw_fits m) (λ i. place_fits (place_at m i)) (empty_or_fits m) sessions_max 0 (λ l a b. fits-here l (omega arith))))
        (sym (apart_distinct sessions_max 0 (omega arith)))
        ∙ regroup raw fits (apart (tabulate (place_at m) 0 sessions_max))
        ∙ rw (fit-every (place_at m) sessions_max 0)

  pub whole : ((every (empty_or_fits m) 0 sessions_max && distinct (keys_of m)) && shares m) ≡ (every (raw_fits m) 0 sessions_max && (free_fits m && sound (places_of m)))
  unfolding sound
  whole =
      rw (shares-is, length-places m)
      (go (free_fits m) (blocks_fit (used (places_of m))) refl (every (raw_fits m) 0 sessions_max) (places_fit (places_of m) && apart (places_of m)) (every (empty_or_fits m) 0 sessions_max && distinct (keys_of m)) (λ e. table e))
    where
      go : (f b : Bool) → blocks_fit (used (places_of m)) ≡ b → (r y x : Bool) → (blocks_fit (used (places_of m)) ≡ true → x ≡ (r && y)) → (x && (f && b)) ≡ (r && (f && ((true && b) && y)))
      go f true e r y x q = joined f (q e)
        where
          joined : (f : Bool) → x ≡ (r && y) → (x && (f && true)) ≡ (r && (f && y))
          joined true k = and-true x ∙ k
          joined false k = and-false x ∙ sym (and-false r)
      go true false e r y x q = and-false x ∙ sym (and-false r)
      go false false e r y x q = and-false x ∙ sym (and-false r)
