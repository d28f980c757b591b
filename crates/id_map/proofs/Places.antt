-- The map in the bytes: a place that is written is read back, every other place is as it was, and writing what is there changes nothing.
use mathlib.Core.Path.{◌≡◌, refl, sym, ap, ap₂, ◌∙◌}
use mathlib.Core.Bool.{Bool, true, false}
use mathlib.Core.List.{List, [], ◌∷◌}
use Prim.Native.Nat.{ℕ, ◌+◌, ◌*◌, ◌%◌, ◌^◌, ◌≤◌, ◌<◌}
use native.Mathlib.Omega.{arith}
use borrow.Author.Tests.{eqb-true, eqb-false, ne_eqb}
use lib.Dec.{eqb}
use lib.ListN.{length, take, get_or}
use lib.Seq.{drop-cons}
use Rattle.rules.specs.Limits.{entries_max}
use Rattle.bits.specs.Little.{le, le_bytes}
use Rattle.bits.specs.Order.{Octets}
use Rattle.bits.specs.Part.{span, splice}
use Rattle.bits.proofs.Little.{length-le_bytes, le-le_bytes, le_bytes-le, le-one}
use Rattle.bits.proofs.Octets.{octets-span, octets-splice, octets-le_bytes}
use Rattle.bits.proofs.Splice.{length-splice, length-span, span_same, span-apart, splice-same}
use Rattle.id_map.specs.Layout.{size, key_at, next_at, time_at, key_of, topic_of_key, slot_at, with_slot, keys_at, times_at, nexts_at}
use Rattle.id_map.proofs.Keys.{key-some, key-topic}
use Rattle.rules.specs.Map.{Topic, Slot, free, used}
use Rattle.rules.specs.Tests.{pick}

-- the n bytes from a on come before or after the field of w bytes at `at`
record Clear (at w a n : ℕ) : Type 0 where
  pub before : a < at → a + n ≤ at
  pub behind : at ≤ a → at + w ≤ a

-- no field of place i is among them
record Aside (i a n : ℕ) : Type 0 where
  pub key : Clear (keys_at + i * 4) 4 a n
  pub time : Clear (times_at + i * 8) 8 a n
  pub next : Clear (nexts_at + i) 1 a n

-- an entry that the layout can hold
pub record Holdable (k : Topic) (since : ℕ) : Type 0 where
  pub topic : topic_of_key (key_of k) ≡ k
  pub word : key_of k < 4294967296
  pub time : since < 2 ^ 64

abbrev keyed : List ℕ → ℕ → ℕ → List ℕ
keyed m i k = splice m (keys_at + i * 4) (le_bytes 4 k)

abbrev timed : List ℕ → ℕ → ℕ → ℕ → List ℕ
timed m i k since = splice (keyed m i k) (times_at + i * 8) (le_bytes 8 since)

module _ (m : List ℕ) (i : ℕ) (long : size ≤ length m) (in_map : i < entries_max) where
  length-keyed : (k : ℕ) → length (keyed m i k) ≡ length m
  length-keyed k = length-splice m (keys_at + i * 4) (le_bytes 4 k) (omega (arith, length-le_bytes 4 k))

  length-timed : (k since : ℕ) → length (timed m i k since) ≡ length m
  length-timed k since =
      let l = length-keyed k in
      length-splice (keyed m i k) (times_at + i * 8) (le_bytes 8 since) (omega (arith, length-le_bytes 8 since)) ∙ l

  pub length-with_slot : (s : Slot) → length (with_slot m i s) ≡ length m
  unfolding with_slot
  length-with_slot free = length-keyed 0
  length-with_slot (used k t since) =
      let l = length-timed (key_of k) since in
      length-splice (timed m i (key_of k) since) (nexts_at + i) (t ∷ []) (omega arith) ∙ l

  key-clear : (k a n : ℕ) → Clear (keys_at + i * 4) 4 a n → span (keyed m i k) a n ≡ span m a n
  key-clear k a n c =
      let l = length-le_bytes 4 k in
      span-apart m (keys_at + i * 4) (le_bytes 4 k) a n (omega arith) c.before (λ b. let q = c.behind b in omega arith)

  time-clear : (k since a n : ℕ) → Clear (times_at + i * 8) 8 a n → span (timed m i k since) a n ≡ span (keyed m i k) a n
  time-clear k since a n c =
      let l = length-le_bytes 8 since in
      let l' = length-keyed k in
      span-apart (keyed m i k) (times_at + i * 8) (le_bytes 8 since) a n (omega arith) c.before (λ b. let q = c.behind b in omega arith)

  next-clear : (k since t a n : ℕ) → Clear (nexts_at + i) 1 a n → span (splice (timed m i k since) (nexts_at + i) (t ∷ [])) a n ≡ span (timed m i k since) a n
  next-clear k since t a n c =
      let l = length-timed k since in
      span-apart (timed m i k since) (nexts_at + i) (t ∷ []) a n (omega arith) c.before c.behind

  aside : (s : Slot) (a n : ℕ) → Aside i a n → span (with_slot m i s) a n ≡ span m a n
  unfolding with_slot
  aside free a n c = key-clear 0 a n c.key
  aside (used k t since) a n c =
      next-clear (key_of k) since t a n c.next ∙ time-clear (key_of k) since a n c.time ∙ key-clear (key_of k) a n c.key

  -- ── another place ──

  module _ (s : Slot) (j : ℕ) (in_map_j : j < entries_max) (other : i ≤ j → i < j) where
    key-aside : Aside i (keys_at + j * 4) 4
    key-aside = record {
      key = record { before = λ h. omega arith; behind = λ h. let l = other (omega arith) in omega arith };
      time = record { before = λ h. omega arith; behind = λ h. omega arith };
      next = record { before = λ h. omega arith; behind = λ h. omega arith };
    }

    time-aside : Aside i (times_at + j * 8) 8
    time-aside = record {
      key = record { before = λ h. omega arith; behind = λ h. omega arith };
      time = record { before = λ h. omega arith; behind = λ h. let l = other (omega arith) in omega arith };
      next = record { before = λ h. omega arith; behind = λ h. omega arith };
    }

    next-aside : Aside i (nexts_at + j) 1
    next-aside = record {
      key = record { before = λ h. omega arith; behind = λ h. omega arith };
      time = record { before = λ h. omega arith; behind = λ h. omega arith };
      next = record { before = λ h. omega arith; behind = λ h. let l = other (omega arith) in omega arith };
    }

    pub same-key-at : key_at (with_slot m i s) j ≡ key_at m j
    unfolding key_at
    same-key-at = ap le (aside s (keys_at + j * 4) 4 key-aside)

    same-time : time_at (with_slot m i s) j ≡ time_at m j
    unfolding time_at
    same-time = ap le (aside s (times_at + j * 8) 8 time-aside)

    same_next : next_at (with_slot m i s) j ≡ next_at m j
    unfolding next_at
    same_next =
        let l = length-with_slot s in
        sym (le-one (with_slot m i s) (nexts_at + j) (omega arith)) ∙ ap le (aside s (nexts_at + j) 1 next-aside) ∙ le-one m (nexts_at + j) (omega arith)

    pub same-slot : slot_at (with_slot m i s) j ≡ slot_at m j
    unfolding slot_at
    same-slot = rw (same-key-at, same_next, same-time)

  -- ── the place itself ──

  module _ (k : Topic) (t since : ℕ) where
    own_key : key_of k < 4294967296 → key_at (with_slot m i (used k t since)) i ≡ key_of k
    unfolding key_at with_slot
    own_key w =
        let l = length-le_bytes 4 (key_of k) in
        ap le (next-clear (key_of k) since t (keys_at + i * 4) 4 (record { before = λ h. omega arith; behind = λ h. omega arith })
        ∙ time-clear (key_of k) since (keys_at + i * 4) 4 (record { before = λ h. omega arith; behind = λ h. omega arith })
        ∙ span_same m (keys_at + i * 4) (le_bytes 4 (key_of k)) (omega arith) 4 (sym l))
        ∙ le-le_bytes 4 (key_of k) w

    own-time : since < 2 ^ 64 → time_at (with_slot m i (used k t since)) i ≡ since
    unfolding time_at with_slot
    own-time w =
        let l = length-le_bytes 8 since in
        let l' = length-keyed (key_of k) in
        ap le (next-clear (key_of k) since t (times_at + i * 8) 8 (record { before = λ h. omega arith; behind = λ h. omega arith })
        ∙ span_same (keyed m i (key_of k)) (times_at + i * 8) (le_bytes 8 since) (omega arith) 8 (sym l))
        ∙ le-le_bytes 8 since w

    own-next : next_at (with_slot m i (used k t since)) i ≡ t
    unfolding next_at with_slot le
    own-next =
        let l = length-timed (key_of k) since in
        let m' = splice (timed m i (key_of k) since) (nexts_at + i) (t ∷ []) in
        let l' : length m' ≡ length (timed m i (key_of k) since) = length-splice (timed m i (key_of k) since) (nexts_at + i) (t ∷ []) (omega arith) in
        sym (le-one m' (nexts_at + i) (omega arith)) ∙ ap le (span_same (timed m i (key_of k) since) (nexts_at + i) (t ∷ []) (omega arith) 1 refl) ∙ omega arith

    pub slot-back : Holdable k since → slot_at (with_slot m i (used k t since)) i ≡ used k t since
    unfolding slot_at
    slot-back w =
        let z : eqb (key_of k) 0 ≡ false = ne_eqb (key_of k) 0 (key-some k) in
        rw (own_key w.word, z, own-next, own-time w.time, w.topic)

  -- ── writing what is there ──

  module _ (bytes : Octets m) where
    key-kept : (k : ℕ) → k ≡ key_at m i → keyed m i k ≡ m
    unfolding key_at
    key-kept k e =
        let l : length (span m (keys_at + i * 4) 4) ≡ 4 = length-span m (keys_at + i * 4) 4 (omega arith) in
        splice-same m (keys_at + i * 4) (le_bytes 4 k) 4 (length-le_bytes 4 k) (ap₂ le_bytes (sym l) e ∙ le_bytes-le (span m (keys_at + i * 4) 4) (octets-span m (keys_at + i * 4) 4 bytes))

    time-kept : splice m (times_at + i * 8) (le_bytes 8 (time_at m i)) ≡ m
    unfolding time_at
    time-kept =
        let x = span m (times_at + i * 8) 8 in
        let l : length x ≡ 8 = length-span m (times_at + i * 8) 8 (omega arith) in
        splice-same m (times_at + i * 8) (le_bytes 8 (le x)) 8 (length-le_bytes 8 (le x))
        (ap (λ (n : ℕ). le_bytes n (le x)) (sym l) ∙ le_bytes-le x (octets-span m (times_at + i * 8) 8 bytes))

    next-kept : splice m (nexts_at + i) (next_at m i ∷ []) ≡ m
    unfolding next_at
    next-kept = splice-same m (nexts_at + i) (get_or m (nexts_at + i) 0 ∷ []) 1 refl (sym (ap (take 1) (drop-cons m (nexts_at + i) 0 (omega arith))))

    pub slot_kept : ((key_at m i ≡ 0 → ⊥) → key_at m i % 2 ≡ 1) → with_slot m i (slot_at m i) ≡ m
    unfolding slot_at with_slot
    slot_kept odd = go (eqb (key_at m i) 0) refl where
      go : (b : Bool) → eqb (key_at m i) 0 ≡ b → with_slot m i (pick b free (used (topic_of_key (key_at m i)) (next_at m i) (time_at m i))) ≡ m
      go true e = key-kept 0 (sym (eqb-true (key_at m i) 0 e))
      go false e =
          ap (λ (x : List ℕ). splice (splice x (times_at + i * 8) (le_bytes 8 (time_at m i))) (nexts_at + i) (next_at m i ∷ []))
          (key-kept (key_of (topic_of_key (key_at m i))) (key-topic (key_at m i) (odd (eqb-false (key_at m i) 0 e))))
          ∙ ap (λ (x : List ℕ). splice x (nexts_at + i) (next_at m i ∷ [])) time-kept ∙ next-kept

    pub octets-with_slot : (k : Topic) (t since : ℕ) → t < 256 → Octets (with_slot m i (used k t since))
    unfolding with_slot
    octets-with_slot k t since h =
        octets-splice (timed m i (key_of k) since) (nexts_at + i) (t ∷ [])
        (octets-splice (keyed m i (key_of k)) (times_at + i * 8) (le_bytes 8 since) (octets-splice m (keys_at + i * 4) (le_bytes 4 (key_of k)) bytes (octets-le_bytes 4 (key_of k))) (octets-le_bytes 8 since))
        (h, tt)
