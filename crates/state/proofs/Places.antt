-- Where the stores of a place reach: inside of the state, and clear of each other and of those of every other place.
use mathlib.Core.Path.{◌≡◌, sym, subst}
use mathlib.Core.Logic.{◌⊎◌, inl, inr}
use mathlib.Core.List.{List, []}
use Prim.Native.Nat.{ℕ, ◌+◌, ◌*◌, ◌≤◌, ◌<◌}
use native.Mathlib.Omega.{arith}
use lib.ListN.{length}
use Rattle.bits.specs.Little.{le_bytes}
use Rattle.bits.proofs.Little.{length-le_bytes}
use Rattle.blocks.proofs.Stores.{Within, Clear, Apart, Disjoint, either}
use Rattle.blocks.specs.Stores.{Store}
use Rattle.rules.specs.Blocks.{blocks_in, times}
use Rattle.rules.specs.Limits.{sessions_max, block_size, blocks_each}
use Rattle.rules.specs.Table.{Place, empty, held}
use Rattle.frame.specs.Key.{key_of}
use Rattle.state.specs.Layout.{size, times_at, free_at, stream_keys_at, controls_at, block_lists_at, blocks_at}
use Rattle.state.specs.Place.{control_of, block_stores, place_stores}
use Rattle.state.specs.inside.Ready.{Small}
use Rattle.state.proofs.Chunks.{Once, within-blocks, clear-low, clear-block, clear-high, zero-offset, disjoint-blocks, apart-blocks}
use Rattle.state.proofs.View.{Storable, length-control}

-- the n bytes from a on meet none of the fields of place j
pub record Aside (j a n : ℕ) : Type 0 where
  pub key : a < stream_keys_at + j * 4 + 4 → stream_keys_at + j * 4 < a + n → ⊥
  pub control : a < controls_at + j * 4 + 4 → controls_at + j * 4 < a + n → ⊥
  pub time : a < times_at + j * 8 + 8 → times_at + j * 8 < a + n → ⊥
  pub list : a < block_lists_at + j * blocks_each + blocks_each → block_lists_at + j * blocks_each < a + n → ⊥

-- the bytes in hand, and the blocks, of a place
abbrev pub hand_of : Place → List ℕ
hand_of empty = []
hand_of (held d s bs) = s.gathered

pub small-in : (p : Place) → Storable p → Small (blocks_in p)
small-in empty w = tt
small-in (held d s bs) w = w.small

key-part : (a n j k : ℕ) → (a < stream_keys_at + j * 4 + 4 → stream_keys_at + j * 4 < a + n → ⊥) → (a + n ≤ stream_keys_at + j * 4) ⊎ (stream_keys_at + j * 4 + length (le_bytes 4 k) ≤ a)
key-part a n j k h = either a n (stream_keys_at + j * 4) (length (le_bytes 4 k)) (λ p q. h (omega (arith, length-le_bytes 4 k, p)) q)

pub clear-place : (j a n : ℕ) (p : Place) → Storable p → Aside j a n → Clear a n (block_stores (blocks_in p) (hand_of p)) → Clear a n (place_stores j p)
unfolding place_stores
clear-place j a n empty w c k = (key-part a n j 0 c.key, tt)
clear-place j a n (held d s bs) w c k = (
  key-part a n j (key_of d) c.key,
  (
    either a n (controls_at + j * 4) (length (control_of s)) (λ p q. c.control (omega (arith, length-control s, p)) q),
    (
      either a n (times_at + j * 8) (length (le_bytes 8 s.since)) (λ p q. c.time (omega (arith, length-le_bytes 8 s.since, p)) q),
      (either a n (block_lists_at + j * blocks_each) (length bs) (λ p q. c.list (omega (arith, w.many, w.few, p)) q), k),
    ),
  ),
)

-- ── the fields of one place beside those of another ──

module _ (i j : ℕ) (in_i : i < sessions_max) (in_j : j < sessions_max) (other : i ≡ j → ⊥) where
  key-aside : Aside j (stream_keys_at + i * 4) 4
  key-aside = record { key = λ p q. other (omega arith); control = λ p q. omega arith; time = λ p q. omega arith; list = λ p q. omega arith }

  control-aside : Aside j (controls_at + i * 4) 4
  control-aside = record { key = λ p q. omega arith; control = λ p q. other (omega arith); time = λ p q. omega arith; list = λ p q. omega arith }

  time-aside : Aside j (times_at + i * 8) 8
  time-aside = record { key = λ p q. omega arith; control = λ p q. omega arith; time = λ p q. other (omega arith); list = λ p q. omega arith }

  list-aside : (n : ℕ) → n ≤ blocks_each → Aside j (block_lists_at + i * blocks_each) n
  list-aside n l = record { key = λ p q. omega arith; control = λ p q. omega arith; time = λ p q. omega arith; list = λ p q. other (omega arith) }

  module _ (p : Place) (w : Storable p) where
    pub key-clear : Clear (stream_keys_at + i * 4) 4 (place_stores j p)
    key-clear = clear-place j (stream_keys_at + i * 4) 4 p w key-aside (clear-low (stream_keys_at + i * 4) 4 (blocks_in p) (hand_of p) (omega arith))

    pub control-clear : Clear (controls_at + i * 4) 4 (place_stores j p)
    control-clear = clear-place j (controls_at + i * 4) 4 p w control-aside (clear-low (controls_at + i * 4) 4 (blocks_in p) (hand_of p) (omega arith))

    pub time-clear : Clear (times_at + i * 8) 8 (place_stores j p)
    time-clear = clear-place j (times_at + i * 8) 8 p w time-aside (clear-low (times_at + i * 8) 8 (blocks_in p) (hand_of p) (omega arith))

    pub list-clear : (n : ℕ) → n ≤ blocks_each → Clear (block_lists_at + i * blocks_each) n (place_stores j p)
    list-clear n l = clear-place j (block_lists_at + i * blocks_each) n p w (list-aside n l) (clear-low (block_lists_at + i * blocks_each) n (blocks_in p) (hand_of p) (omega arith))

-- the free blocks, and a part of a block, beside the fields of a place
module _ (j : ℕ) (in_j : j < sessions_max) (p : Place) (w : Storable p) where
  pub free-clear : Clear free_at 8 (place_stores j p)
  free-clear =
      clear-place j free_at 8 p w
      (record { key = λ p q. omega arith; control = λ p q. omega arith; time = λ p q. omega arith; list = λ p q. omega arith })
      (clear-low free_at 8 (blocks_in p) (hand_of p) (omega arith))

  pub block-clear : (b r n : ℕ) → r + n ≤ block_size → times b (blocks_in p) ≡ 0 → Clear (blocks_at + b * block_size + r) n (place_stores j p)
  block-clear b r n h t =
      clear-place j (blocks_at + b * block_size + r) n p w
      (record { key = λ p q. omega arith; control = λ p q. omega arith; time = λ p q. omega arith; list = λ p q. omega arith })
      (clear-block b r n (blocks_in p) (hand_of p) h t)

  -- a part of what setup wrote, and one past the layout
  pub setup-clear : (a n : ℕ) → (a + n ≤ times_at) ⊎ ((free_at + 8 ≤ a) × (a + n ≤ stream_keys_at)) → Clear a n (place_stores j p)
  setup-clear a n (inl h) =
      clear-place j a n p w
      (record { key = λ p q. omega arith; control = λ p q. omega arith; time = λ p q. omega arith; list = λ p q. omega arith })
      (clear-low a n (blocks_in p) (hand_of p) (omega arith))
  setup-clear a n (inr h) =
      clear-place j a n p w
      (record { key = λ p q. omega (arith, h.1); control = λ p q. omega (arith, h.1); time = λ p q. omega (arith, h.0); list = λ p q. omega (arith, h.1) })
      (clear-low a n (blocks_in p) (hand_of p) (omega (arith, h.1)))

  pub past-clear : (n : ℕ) → Clear size n (place_stores j p)
  past-clear n =
      clear-place j size n p w
      (record { key = λ p q. omega arith; control = λ p q. omega arith; time = λ p q. omega arith; list = λ p q. omega arith })
      (clear-high size n (blocks_in p) (hand_of p) (omega arith) (small-in p w))

-- ── the stores of one place ──

many-le : (p : Place) → Storable p → length (blocks_in p) ≤ blocks_each
many-le empty w = omega arith
many-le (held d s bs) w = omega (arith, w.many, w.few)

pub within-place : (n i : ℕ) (p : Place) → size ≤ n → i < sessions_max → Storable p → Within n (place_stores i p)
unfolding place_stores
within-place n i empty h l w = (omega (arith, length-le_bytes 4 0), tt)
within-place n i (held d s bs) h l w = (
  omega (arith, length-le_bytes 4 (key_of d)),
  (
    omega (arith, length-control s),
    (omega (arith, length-le_bytes 8 s.since), (omega (arith, many-le (held d s bs) w), within-blocks n bs s.gathered h w.small)),
  ),
)

pub resized : (a : ℕ) {n k : ℕ} (ws : List Store) → n ≡ k → Clear a k ws → Clear a n ws
resized a ws e c = subst (λ (x : ℕ). Clear a x ws) (sym e) c

-- two places with no block in common
pub apart-places : (i j : ℕ) → i < sessions_max → j < sessions_max → (i ≡ j → ⊥) → (p q : Place) → Storable p → Storable q
    → ((b : ℕ) → (times b (blocks_in p) ≡ 0 → ⊥) → times b (blocks_in q) ≡ 0) → Apart (place_stores i p) (place_stores j q)
unfolding place_stores
apart-places i j hi hj o empty q w v d = (resized (stream_keys_at + i * 4) (place_stores j q) (length-le_bytes 4 0) (key-clear i j hi hj o q v), tt)
apart-places i j hi hj o (held e s bs) q w v d = (
  resized (stream_keys_at + i * 4) (place_stores j q) (length-le_bytes 4 (key_of e)) (key-clear i j hi hj o q v),
  (
    resized (controls_at + i * 4) (place_stores j q) (length-control s) (control-clear i j hi hj o q v),
    (
      resized (times_at + i * 8) (place_stores j q) (length-le_bytes 8 s.since) (time-clear i j hi hj o q v),
      (
        list-clear i j hi hj o q v (length bs) (many-le (held e s bs) w),
        apart-blocks bs s.gathered (place_stores j q)
            (λ b n h k. zero-offset b n (place_stores j q) (block-clear j hj q v b 0 n (omega arith) (d b h))),
      ),
    ),
  ),
)

pub disjoint-place : (i : ℕ) → i < sessions_max → (p : Place) → Storable p → Once (blocks_in p) → Disjoint (place_stores i p)
unfolding place_stores
disjoint-place i h empty w o = (tt, tt)
disjoint-place i h (held d s bs) w o =
    let k = length-le_bytes 4 (key_of d) in
    let c = length-control s in
    let t = length-le_bytes 8 s.since in
    let l = many-le (held d s bs) w in (
      (inl (omega arith), (inr (omega arith), (inl (omega arith), clear-low (stream_keys_at + i * 4) (length (le_bytes 4 (key_of d))) bs s.gathered (omega arith)))),
      (
        (inr (omega arith), (inl (omega arith), clear-low (controls_at + i * 4) (length (control_of s)) bs s.gathered (omega arith))),
        (
          (inl (omega arith), clear-low (times_at + i * 8) (length (le_bytes 8 s.since)) bs s.gathered (omega arith)),
          (clear-low (block_lists_at + i * blocks_each) (length bs) bs s.gathered (omega arith), disjoint-blocks bs s.gathered o),
        ),
      ),
    )
