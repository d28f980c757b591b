-- The table of places and the bytes: each place by itself, and which one holds a stream.
use mathlib.Core.Path.{◌≡◌, refl, sym, ap, ◌∙◌}
use mathlib.Core.Bool.{Bool, true, false, ◌&&◌}
use mathlib.Core.List.{List}
use Prim.Native.Nat.{ℕ, zero, suc, ◌+◌, ◌*◌, ◌≤◌, ◌<◌}
use native.Mathlib.Omega.{arith}
use borrow.Author.Tests.{ne_eqb, eqb-true}
use lib.Dec.{eqb}
use lib.ListN.{length}
use Rattle.rules.specs.Limits.{sessions_max}
use Rattle.bits.specs.Order.{Octets}
use Rattle.bits.specs.Part.{span}
use Rattle.bits.specs.Tabulate.{tabulate, every}
use Rattle.bits.proofs.Little.{le-lt}
use Rattle.bits.proofs.Octets.{octets-span}
use Rattle.bits.proofs.Splice.{length-span}
use Rattle.rules.specs.Sound.{place_fits, places_fit}
use Rattle.rules.specs.Table.{Place, empty, held, holds}
use Rattle.rules.specs.Tests.{pick}
use Rattle.state.specs.Layout.{size, key_at, session_at, blocks_of, place_at, stream_keys_at}
use Rattle.frame.specs.Key.{stream_of_key}
use Rattle.state.proofs.Keys.{same_key}

pub fit-every : (f : ℕ → Place) (n i : ℕ) → places_fit (tabulate f i n) ≡ every (λ l. place_fits (f l)) i n
unfolding every tabulate
fit-every f zero i = refl
fit-every f (suc n) i = ap (λ (b : Bool). place_fits (f i) && b) (fit-every f n (suc i))

module _ (m : List ℕ) (bytes : Octets m) (long : size ≤ length m) where
  pub key-lt : (j : ℕ) → j < sessions_max → key_at m j < 4294967296
  unfolding key_at
  key-lt j h =
      let n : length (span m (stream_keys_at + j * 4) 4) ≡ 4 = length-span m (stream_keys_at + j * 4) 4 (omega arith) in
      rw n at (le-lt (span m (stream_keys_at + j * 4) 4) (octets-span m (stream_keys_at + j * 4) 4 bytes))

  -- a place holds the stream of a key exactly if it has that key
  pub holds-key : (k j : ℕ) → (k ≡ 0 → ⊥) → k < 4294967296 → j < sessions_max → holds (stream_of_key k) (place_at m j) ≡ eqb (key_at m j) k
  unfolding place_at
  holds-key k j z hk hj = go (eqb (key_at m j) 0) refl where
    go : (b : Bool) → eqb (key_at m j) 0 ≡ b
        → holds (stream_of_key k) (pick b empty (held (stream_of_key (key_at m j)) (session_at m j) (blocks_of m j))) ≡ eqb (key_at m j) k
    go true e = sym (ne_eqb (key_at m j) k (λ q. z (sym q ∙ eqb-true (key_at m j) 0 e)))
    go false e = same_key (key_at m j) k (key-lt j hj) hk
