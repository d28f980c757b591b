-- `tabulate` from i up to n, as a loop goes through it.
use mathlib.Core.Path.{◌≡◌}
use mathlib.Core.List.{[], ◌∷◌}
use Prim.Native.Nat.{ℕ, suc, ◌+◌, ◌-◌, ◌≤◌, ◌<◌}
use native.Mathlib.Numerals.{add-one}
use native.Mathlib.Omega.{arith}
use Rattle.bits.specs.Tabulate.{tabulate}

module _ {A : Type 0} (f : ℕ → A) (i n : ℕ) where
  pub tab-turn : i < n → tabulate f i (n - i) ≡ f i ∷ tabulate f (i + 1) (n - (i + 1))
  unfolding tabulate
  tab-turn h = let k : n - i ≡ suc (n - suc i) = omega arith in rw (add-one, k)

  pub tab-end : n ≤ i → tabulate f i (n - i) ≡ []
  unfolding tabulate
  tab-end h = let k : n - i ≡ 0 = omega arith in rw k
