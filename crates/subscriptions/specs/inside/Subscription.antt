-- RULES 3.4, 3.6: what a look-up gives, the test of one key, and one subscription written into the state.
use Rattle.std.specs.Prelude.{None, Some, Bool, ◌&&◌, ◌||◌, List, ℕ, ◌+◌, ◌*◌, ltb, eqb}
use Rattle.std.proofs.Math.Option.{Option, none, some}
use Rattle.std.specs.declared.option.Option as rust
use Rattle.bits.specs.Little.{le_bytes}
use Rattle.bits.specs.Part.{splice}
use Rattle.keys.specs.inside.Keys.{word_at, lowest}
use Rattle.state.specs.Layout.{signatures_at, subscription_keys_at}

-- as the code tells it
abbrev pub asked : Option ℕ → rust.Option ℕ
asked none = None
asked (some signature) = Some signature

-- a key is kind × 65536 + type. This is above the last one in range: kind 1 has types below 256
abbrev pub keys_end : ℕ
keys_end = 65536 + 256

-- a key is in range, and none of the first j subscriptions has it; `first`: that none has it is known
unfoldable pub key_fits : List ℕ → ℕ → ℕ → Bool → Bool
key_fits m k j first = ltb k keys_end && (first || eqb (lowest (λ i. eqb (word_at m subscription_keys_at i) k) 0 j) j)

unfoldable pub with_subscription : List ℕ → ℕ → ℕ → ℕ → List ℕ
with_subscription m j k signature = splice (splice m (signatures_at + j * 8) (le_bytes 8 signature)) (subscription_keys_at + j * 4) (le_bytes 4 k)
