-- Finding a place by a scan of the bytes is finding it in the table.
use mathlib.Core.Path.{◌≡◌, refl, sym, ap, ◌∙◌}
use mathlib.Core.Bool.{Bool, true, false, not, ◌&&◌}
use mathlib.Core.List.{List}
use mathlib.Core.Option.{Option, none, some}
use Prim.Native.Nat.{ℕ, zero, suc, ◌+◌, ◌-◌, ◌≤◌, ◌<◌}
use native.Mathlib.Omega.{arith}
use borrow.Author.Tests.{lt-ltb, le-ltb, eqb-true, ltb-true, ltb-false}
use lib.Dec.{ltb, eqb}
use lib.ListN.{length}
use Rattle.bits.specs.Order.{Octets}
use Rattle.rules.specs.Frame.{Stream}
use Rattle.rules.specs.Limits.{old_age}
use Rattle.rules.specs.Table.{Place, empty, held, plus1, seek, holds, is_free, is_old, place_for}
use Rattle.rules.specs.Tests.{pick}
use Rattle.bits.specs.Tabulate.{tabulate}
use Rattle.state.specs.Layout.{size, key_at, time_at, blocks_of, session_at, place_at, places_of}
use Rattle.frame.specs.Key.{stream_of_key}
use Rattle.keys.specs.inside.Keys.{lowest}
use Rattle.sessions.specs.inside.Scan.{fits_at}
use Rattle.sessions.specs.declared.scan.Want.TheVariants.{Key, Old}
use Rattle.state.proofs.Soundness.{holds-key}

-- the lowest number that a scan found, if it found one
abbrev pub found : ℕ → ℕ → Option ℕ
found x n = pick (ltb x n) (some x) none

shifted : ℕ → ℕ → ℕ → Option ℕ
shifted i x e = pick (ltb x e) (some (x - i)) none

lowest-from : (f : ℕ → Bool) (n i : ℕ) → i ≤ lowest f i n
unfolding lowest
lowest-from f zero i = omega arith
lowest-from f (suc n) i = go (f i) (lowest-from f n (suc i)) where
  go : (b : Bool) → suc i ≤ lowest f (suc i) n → i ≤ pick b i (lowest f (suc i) n)
  go true h = omega arith
  go false h = omega arith

seek-from : (t : Place → Bool) (f : ℕ → Place) (g : ℕ → Bool) (n i : ℕ) → ((j : ℕ) → i ≤ j → j < i + n → t (f j) ≡ g j)
    → seek t (tabulate f i n) ≡ shifted i (lowest g i n) (i + n)
unfolding seek lowest shifted tabulate
seek-from t f g zero i e = rw (le-ltb i (i + 0) (omega arith))
seek-from t f g (suc n) i e = go (g i) refl (lowest g (suc i) n) (lowest-from g n (suc i)) (seek-from t f g n (suc i) (λ j h k. e j (omega arith) (omega arith)))
  where
    step : (x : ℕ) → suc i ≤ x → (b : Bool) → ltb x (suc i + n) ≡ b → plus1 (pick b (some (x - suc i)) none) ≡ pick (ltb x (i + suc n)) (some (x - i)) none
    step x h true p =
        let q : ltb x (i + suc n) ≡ true = lt-ltb x (i + suc n) (omega (arith, ltb-true x (suc i + n) p)) in
        let d : suc (x - suc i) ≡ x - i = omega arith in
        rw q (ap (λ (k : ℕ). some k) d)
    step x h false p =
        let q : ltb x (i + suc n) ≡ false = le-ltb x (i + suc n) (omega (arith, ltb-false x (suc i + n) p)) in
        rw q

    go : (b : Bool) → g i ≡ b → (x : ℕ) → suc i ≤ x → seek t (tabulate f (suc i) n) ≡ pick (ltb x (suc i + n)) (some (x - suc i)) none
        → pick (t (f i)) (some 0) (plus1 (seek t (tabulate f (suc i) n))) ≡ pick (ltb (pick (g i) i x) (i + suc n)) (some (pick (g i) i x - i)) none
    go true p x h r =
        let q : t (f i) ≡ true = e i (omega arith) (omega arith) ∙ p in
        let l : ltb i (i + suc n) ≡ true = lt-ltb i (i + suc n) (omega arith) in
        let z : i - i ≡ 0 = omega arith in
        rw (q, p, l, z)
    go false p x h r =
        let q : t (f i) ≡ false = e i (omega arith) (omega arith) ∙ p in
        rw (q, p, r) (step x h (ltb x (suc i + n)) refl)

-- what a scan found passes the test
hits : (f : ℕ → Bool) (n i : ℕ) → lowest f i n < i + n → f (lowest f i n) ≡ true
unfolding lowest
hits f zero i h = absurd (omega arith)
hits f (suc n) i h = go (f i) refl (hits f n (suc i)) h where
  go : (b : Bool) → f i ≡ b → (lowest f (suc i) n < suc i + n → f (lowest f (suc i) n) ≡ true) → pick b i (lowest f (suc i) n) < i + suc n → f (pick b i (lowest f (suc i) n)) ≡ true
  go true e later h = e
  go false e later h = later (omega arith)

-- a scan of all 32 places
scanned : (m : List ℕ) (t : Place → Bool) (g : ℕ → Bool) → ((j : ℕ) → j < 32 → t (place_at m j) ≡ g j) → seek t (places_of m) ≡ found (lowest g 0 32) 32
unfolding places_of shifted
scanned m t g e =
    seek-from t (place_at m) g 32 0 (λ j h k. e j (omega arith))
    ∙ ap (λ (k : ℕ). pick (ltb (lowest g 0 32) 32) (some k) none) zero-off
  where
    zero-off : lowest g 0 32 - 0 ≡ lowest g 0 32
    zero-off = omega arith

module _ (m : List ℕ) where
  -- the place that holds a stream
  pub held_at : Octets m → size ≤ length m → (d : Stream) (k : ℕ) → (k ≡ 0 → ⊥) → k < 4294967296 → stream_of_key k ≡ d
      → seek (holds d) (places_of m) ≡ found (lowest (fits_at m (Key k)) 0 32) 32
  unfolding fits_at
  held_at o l d k z h e =
      scanned m (holds d) (fits_at m (Key k)) (λ j b. ap (λ (x : Stream). holds x (place_at m j)) (sym e) ∙ holds-key m o l k j z h b)

  -- an empty place
  pub free-at : seek is_free (places_of m) ≡ found (lowest (fits_at m (Key 0)) 0 32) 32
  unfolding fits_at place_at
  free-at = scanned m is_free (fits_at m (Key 0)) (λ j b. go j (eqb (key_at m j) 0)) where
    go : (j : ℕ) (b : Bool) → is_free (pick b empty (held (stream_of_key (key_at m j)) (session_at m j) (blocks_of m j))) ≡ b
    go j true = refl
    go j false = refl

  -- an old session's place
  pub old-at : (t : ℕ) → seek (is_old t) (places_of m) ≡ found (lowest (fits_at m (Old t)) 0 32) 32
  unfolding fits_at place_at session_at
  old-at t = scanned m (is_old t) (fits_at m (Old t)) (λ j b. go j (eqb (key_at m j) 0)) where
    go : (j : ℕ) (b : Bool) → is_old t (pick b empty (held (stream_of_key (key_at m j)) (session_at m j) (blocks_of m j))) ≡ (not b && ltb old_age (t - time_at m j))
    go j true = refl
    go j false = refl

  -- ── the place for a new session ──

  module _ (t x : ℕ) (free : x ≡ lowest (fits_at m (Key 0)) 0 32) where
    pub place-free : x < 32 → place_for t (places_of m) ≡ some x
    unfolding place_for
    place-free h = rw (free-at, ← free, lt-ltb x 32 h)

    module _ (none_free : 32 ≤ x) (y : ℕ) (aged : y ≡ lowest (fits_at m (Old t)) 0 32) where
      pub place-old : y < 32 → place_for t (places_of m) ≡ some y
      unfolding place_for
      place-old h = rw (free-at, old-at t, ← free, ← aged, le-ltb x 32 none_free, lt-ltb y 32 h)

      pub no_place : 32 ≤ y → place_for t (places_of m) ≡ none
      unfolding place_for
      no_place h = rw (free-at, old-at t, ← free, ← aged, le-ltb x 32 none_free, le-ltb y 32 h)

  -- ── the place of a stream ──

  module _ (o : Octets m) (l : size ≤ length m) (d : Stream) (k : ℕ) (z : k ≡ 0 → ⊥) (w : k < 4294967296) (e : stream_of_key k ≡ d)
      (x : ℕ) (at : x ≡ lowest (fits_at m (Key k)) 0 32) where
    pub place_of : x < 32 → seek (holds d) (places_of m) ≡ some x
    place_of h = rw (held_at o l d k z w e, ← at, lt-ltb x 32 h)

    pub no-place-of : 32 ≤ x → seek (holds d) (places_of m) ≡ none
    no-place-of h = rw (held_at o l d k z w e, ← at, le-ltb x 32 h)

    -- the place that was found has the key
    pub key-found : x < 32 → key_at m x ≡ k
    unfolding fits_at
    key-found h = eqb-true (key_at m x) k (ap (fits_at m (Key k)) at ∙ hits (fits_at m (Key k)) 32 0 (rw (← at) (omega arith)))
