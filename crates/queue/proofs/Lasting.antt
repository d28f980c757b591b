-- A queue that is held is read back, so a queue without a fault stays one.
use mathlib.Core.Path.{◌≡◌, refl, sym, ap, ap₂, ◌∙◌}
use mathlib.Core.Bool.{true}
use mathlib.Core.List.{List, ◌∷◌}
use Prim.Native.Nat.{ℕ, zero, suc, ◌+◌, ◌*◌, ◌^◌, ◌≤◌, ◌<◌}
use native.Mathlib.Omega.{arith}
use lib.ListN.{length}
use Rattle.bits.specs.Little.{le, le_bytes}
use Rattle.bits.specs.Part.{splice}
use Rattle.bits.proofs.Little.{length-le_bytes, le-le_bytes}
use Rattle.bits.proofs.Splice.{length-splice, span_same, span-behind}
use Rattle.rules.specs.Limits.{frame_record}
use Rattle.queue.specs.Laws.{Queue}
use Rattle.queue.specs.Layout.{count_at, records_at, capacity, count_of, queued, queue_of, sound_queue, stored, holding}
use Rattle.queue.specs.Queue.{Record, in_order}
use Rattle.queue.proofs.Places.{Sized, length-stored, queued-stored}
use Rattle.queue.proofs.Soundness.{by-records, places-fit}

queued-behind : (m : List ℕ) (ys : List ℕ) → length ys ≡ records_at → records_at ≤ length m → (n : ℕ) → queued (splice m count_at ys) n ≡ queued m n
unfolding queued
queued-behind m ys l h zero = refl
queued-behind m ys l h (suc n) =
    ap₂ (λ x y. x ∷ y) (span-behind m count_at ys (omega arith) (records_at + n * frame_record) frame_record (omega arith)) (queued-behind m ys l h n)

-- ── what is held is read back ──

module _ (m : List ℕ) (q : List Record) (s : Sized q) (h : records_at ≤ length m) (room : length q ≤ capacity (length m)) (small : length q < 2 ^ 64) where
  fits : records_at + length q * frame_record ≤ length m
  fits = places-fit (length m) (length q) h room

  stores : records_at + length (stored q) ≤ length m
  stores = omega (arith, fits, length-stored q s)

  abbrev inner : List ℕ
  inner = splice m records_at (stored q)

  long-inner : length inner ≡ length m
  long-inner = length-splice m records_at (stored q) stores

  counted : length (le_bytes 8 (length q)) ≡ records_at
  counted = length-le_bytes 8 (length q)

  counts : count_at + length (le_bytes 8 (length q)) ≤ length inner
  counts = omega (arith, counted, long-inner)

  pub length-held : length (holding m q) ≡ length m
  unfolding holding
  length-held = length-splice inner count_at (le_bytes 8 (length q)) counts ∙ long-inner

  count_held : count_of (holding m q) ≡ length q
  unfolding holding count_of
  count_held = ap le (span_same inner count_at (le_bytes 8 (length q)) counts 8 (sym counted)) ∙ le-le_bytes 8 (length q) small

  pub queue-held : queue_of (holding m q) ≡ q
  unfolding holding
  queue-held =
      ap (queued (holding m q)) count_held ∙ queued-behind inner (le_bytes 8 (length q)) counted (omega (arith, long-inner)) (length q) ∙ queued-stored m q s fits

  pub sound-held : in_order q ≡ true → sound_queue (holding m q) ≡ true
  sound-held o =
      sym (by-records (holding m q) (omega (arith, length-held)) (rw (count_held, length-held) room)) ∙ ap in_order queue-held ∙ o

  pub queue-of-held : in_order q ≡ true → length m < 2 ^ 64 → Queue (holding m q)
  queue-of-held o l = record { sound = sound-held o; slice = omega (arith, length-held) }
