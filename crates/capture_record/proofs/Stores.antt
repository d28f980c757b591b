-- A record as the code makes it: two stores, and the data as one number.
use mathlib.Core.Path.{◌≡◌, ap, ◌∙◌}
use mathlib.Core.List.{List, ◌∷◌, ◌++◌}
use Prim.Native.Nat.{ℕ, ◌+◌, ◌≤◌}
use native.Mathlib.Omega.{arith}
use lib.ListN.{length}
use lib.Seq.{take_all}
use Rattle.bits.specs.Little.{le, le_bytes}
use Rattle.bits.specs.Order.{Octets}
use Rattle.bits.specs.Part.{span, splice}
use Rattle.bits.proofs.Little.{length-le_bytes, le_bytes-le}
use Rattle.bits.proofs.Splice.{splice-next}

pub stored : (m m₁ m₂ bytes : List ℕ) (at time id n w : ℕ) → at + 21 ≤ length m → length bytes ≡ 8 → Octets bytes → w ≡ le (span bytes 0 8)
    → m₁ ≡ splice m at (le_bytes 8 time) → m₂ ≡ splice m₁ (at + 8) (le_bytes 4 id ++ (n ∷ le_bytes 8 w))
    → m₂ ≡ splice m at (le_bytes 8 time ++ (le_bytes 4 id ++ (n ∷ bytes)))
stored m m₁ m₂ bytes at time id n w h l o e e₁ e₂ =
    let b : le_bytes 8 w ≡ bytes =
    ap (le_bytes 8) (e ∙ ap le (take_all 8 bytes (omega arith))) ∙ ap (λ (k : ℕ). le_bytes k (le bytes)) (rw l) ∙ le_bytes-le bytes o in
    splice-next m m₁ m₂ at 8 (le_bytes 8 time) (le_bytes 4 id ++ (n ∷ le_bytes 8 w)) (omega arith) (length-le_bytes 8 time) e₁ e₂
    ∙ ap (λ (x : List ℕ). splice m at (le_bytes 8 time ++ (le_bytes 4 id ++ (n ∷ x)))) b
