-- `sound::is_sound` meets its contract.
use mathlib.Core.Path.{◌≡◌, ap, ◌∙◌}
use mathlib.Core.Bool.{Bool, false}
use mathlib.Core.List.{List}
use Prim.Native.Nat.{ℕ, ◌-◌, ◌/◌, ◌≤◌, ◌<◌}
use lib.ListN.{length}
use Rattle.bits.specs.Little.{le}
use Rattle.bits.specs.Part.{span}
use Rattle.rules.specs.Limits.{frame_record}
use Rattle.queue.specs.Layout.{count_at, records_at, capacity, count_of, queued, sound_queue}
use Rattle.queue.specs.Queue.{in_order}
use Rattle.queue.proofs.Soundness.{fault-short, fault-many, by-records}
use Rattle.queue.proofs.sound.is_sound.Goals as goal

module _ (m : List ℕ) (n : ℕ) (is : n ≡ le (span m count_at 8)) (h : records_at ≤ length m) where
  many : (length m - records_at) / frame_record < n → false ≡ sound_queue m
  unfolding capacity count_of
  many l = fault-many m h (rw (← is) l)

  tested : n ≤ (length m - records_at) / frame_record → (b : Bool) → b ≡ in_order (queued m n) → b ≡ sound_queue m
  unfolding capacity count_of
  tested l b e = e ∙ ap (λ (k : ℕ). in_order (queued m k)) is ∙ by-records m h (rw (← is) l)

pub returns-then-queue-lt-RECORDS_AT : goal.returns-then-queue-lt-RECORDS_AT
returns-then-queue-lt-RECORDS_AT c = fault-short c.args.queue.now c.if-queue-lt-RECORDS_AT.true

pub returns-then-places-n : goal.returns-then-places-n
returns-then-places-n c =
    many c.args.queue.now c.get_u64-n.result c.get_u64-n.ensures c.if-queue-lt-RECORDS_AT.false c.if-places-n.true

pub returns : goal.returns
returns c =
    tested c.args.queue.now c.get_u64-n.result c.get_u64-n.ensures c.if-queue-lt-RECORDS_AT.false c.if-places-n.false c.records_sound.result c.records_sound.ensures
