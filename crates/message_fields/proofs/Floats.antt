-- The floats of a row: what their code goes by.
use mathlib.Core.Path.{◌≡◌, refl, sym}
use mathlib.Core.Bool.{Bool, true, false}
use mathlib.Core.List.{List, [], ◌∷◌}
use Prim.Native.Nat.{ℕ, suc, ◌^◌, ◌≤◌, ◌<◌}
use native.Mathlib.Omega.{arith}
use borrow.Author.Tests.{lt-ltb}
use lib.Dec.{ltb}
use lib.ListN.{length, take, get_or}
use lib.Seq.{get_or-take, length-take-le}
use Rattle.shape.specs.Shape.{all_below}
use Rattle.shape.proofs.Fields.{and_both}
use Rattle.equipment_esc.proofs.RawCommandFacts.{below_at}

all-below : (n : ℕ) (xs : List ℕ) → ((k : ℕ) → k < length xs → get_or xs k 0 < n) → all_below n xs ≡ true
unfolding all_below
all-below n [] f = refl
all-below n (x ∷ xs) f = and_both (ltb x n) (all_below n xs) (lt-ltb x n (f 0 (omega arith))) (all-below n xs (λ k h. f (suc k) (omega arith)))

module _ (ws : List ℕ) (h : 7 ≤ length ws) where
  pub float_at : (i : ℕ) → i < 7 → all_below (2 ^ 32) (take 7 ws) ≡ true → get_or ws i 0 < 2 ^ 32
  float_at i l e = omega (arith, get_or-take 7 ws i 0 l, below_at (2 ^ 32) (take 7 ws) i (omega (arith, length-take-le 7 ws h)) e)

  pub no-float : (i : ℕ) → i < 7 → 2 ^ 32 ≤ get_or ws i 0 → false ≡ all_below (2 ^ 32) (take 7 ws)
  no-float i l g = by-case (all_below (2 ^ 32) (take 7 ws)) refl where
    by-case : (b : Bool) → all_below (2 ^ 32) (take 7 ws) ≡ b → false ≡ all_below (2 ^ 32) (take 7 ws)
    by-case true e = absurd (omega (arith, float_at i l e))
    by-case false e = sym e

  pub all-floats : ((k : ℕ) → k < 7 → get_or ws k 0 < 2 ^ 32) → true ≡ all_below (2 ^ 32) (take 7 ws)
  all-floats f =
      sym (all-below (2 ^ 32) (take 7 ws) (λ k l. let m : k < 7 = omega (arith, length-take-le 7 ws h) in omega (arith, get_or-take 7 ws k 0 m, f k m)))
