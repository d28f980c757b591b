-- A state without a fault stays one under each of the stores.
use mathlib.Core.Path.{◌≡◌, sym, ap, ◌∙◌}
use mathlib.Core.Bool.{true, false}
use mathlib.Core.List.{List}
use mathlib.Core.Option.{none}
use Prim.Native.Nat.{ℕ, ◌≤◌, ◌<◌}
use native.Mathlib.Omega.{arith}
use lib.ListN.{length}
use Rattle.bits.specs.Little.{le}
use Rattle.allocator_table.specs.Layout.{size, gathered_count, entry_count, table_of, sound_state, with_time, with_count, with_gathered, with_entry}
use Rattle.allocator_table.specs.Limits.{unique_id_max, node_max}
use Rattle.allocator_table.specs.Table.{entry, is_givable, holds, node_of, sound}
use Rattle.allocator_table.proofs.Inserted.{sound-inserted}
use Rattle.allocator_table.proofs.Soundness.{long-enough, gathered-few, entries-few, table-sound, by-table}
use Rattle.allocator_table.proofs.Views.{length-timed, table-timed, entries-timed, count-timed, length-counted, table_counted, entries-counted, count-counted, length-gathered, table-gathered, entries-gathered, count-gathered, length-added, table-added, entries-added, count-added}

made : (m : List ℕ) → size ≤ length m → gathered_count m < unique_id_max → entry_count m ≤ node_max → sound (table_of m) ≡ true → sound_state m ≡ true
made m l g n s = sym (by-table m l g n) ∙ s

module _ (m : List ℕ) (s : sound_state m ≡ true) where
  pub sound-timed : (t : ℕ) → sound_state (with_time m t) ≡ true
  sound-timed t =
      let l = long-enough m s in
      made (with_time m t) (omega (arith, length-timed m t l)) (omega (arith, count-timed m t l, gathered-few m s)) (omega (arith, entries-timed m t l, entries-few m s))
      (ap sound (table-timed m t l) ∙ table-sound m s)

  pub sound-counted : (n : ℕ) → n < unique_id_max → sound_state (with_count m n) ≡ true
  sound-counted n h =
      let l = long-enough m s in
      made (with_count m n) (omega (arith, length-counted m n l)) (omega (arith, count-counted m n l (omega arith))) (omega (arith, entries-counted m n l, entries-few m s))
      (ap sound (table_counted m n l) ∙ table-sound m s)

  pub sound-gathered : (g : List ℕ) → length g < unique_id_max → sound_state (with_gathered m g) ≡ true
  sound-gathered g h =
      let l = long-enough m s in
      let f : length g ≤ unique_id_max = omega arith in
      made (with_gathered m g) (omega (arith, length-gathered m g l f)) (omega (arith, count-gathered m g l f)) (omega (arith, entries-gathered m g l f, entries-few m s))
      (ap sound (table-gathered m g l f) ∙ table-sound m s)

  pub sound-added : (u : List ℕ) (n : ℕ) → entry_count m < node_max → length u ≡ unique_id_max → n ≤ node_max → is_givable n ≡ true → node_of (le u) (table_of m) ≡ none → holds n (table_of m) ≡ false
      → sound_state (with_entry m u n) ≡ true
  sound-added u n few whole small g new h =
      let l = long-enough m s in
      made (with_entry m u n) (omega (arith, length-added m u n l few whole)) (omega (arith, count-added m u n l few whole, gathered-few m s)) (omega (arith, entries-added m u n l few whole))
      (ap sound (table-added m u n l few whole (omega arith)) ∙ sound-inserted (entry (le u) n) g (table_of m) (table-sound m s) new h)
