-- `entry::store` meets its contract: three stores, one after the other.
use mathlib.Core.Path.{◌≡◌}
use mathlib.Core.List.{List}
use Prim.Native.Nat.{ℕ, ◌+◌, ◌*◌, ◌%◌, ◌<◌}
use native.Mathlib.Omega.{arith}
use Rattle.bits.specs.Little.{le_bytes}
use Rattle.bits.specs.Part.{splice}
use Rattle.id_map.specs.Layout.{topic_of_key, with_slot, keys_at, times_at, nexts_at}
use Rattle.id_map.proofs.Keys.{key-topic}
use Rattle.rules.specs.Map.{used}
use Rattle.id_map.proofs.entry.store.Goals as goal

stored : (m m₁ m₂ m₃ : List ℕ) (i k next time : ℕ) → k % 2 ≡ 1 → next < 256 → m₁ ≡ splice m (keys_at + i * 4) (le_bytes 4 k) → m₂ ≡ splice m₁ (times_at + i * 8) (le_bytes 8 time)
    → m₃ ≡ splice m₂ (nexts_at + i) (le_bytes 1 next) → m₃ ≡ with_slot m i (used (topic_of_key k) next time)
unfolding with_slot le_bytes
stored m m₁ m₂ m₃ i k next time odd byte e₁ e₂ e₃ =
    let b : next % 256 ≡ next = omega arith in
    rw (e₃, e₂, e₁, b, key-topic k odd)

pub returns : goal.returns
returns c =
    stored c.args.map.now c.put_u32.new.s c.put_u64.new.s c.put_at.new.s c.args.i c.args.k c.args.next c.args.time
    (omega arith) (omega arith) c.put_u32.ensures c.put_u64.ensures c.put_at.ensures
