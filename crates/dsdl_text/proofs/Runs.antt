-- Laws of `run`.
use mathlib.Core.Path.{◌≡◌, refl}
use mathlib.Core.Bool.{Bool, true, false, cond}
use mathlib.Core.List.{List, [], ◌∷◌}
use Prim.Native.Nat.{ℕ, zero, suc, ◌≤◌, ◌<◌}
use native.Mathlib.Omega.{arith}
use lib.ListN.{length, get_or, drop}
use lib.Seq.{drop-cons}
use Rattle.dsdl_text.specs.declared.class.Class.{Class}
use Rattle.dsdl_text.specs.Class.{is_in, run}

-- it stops at a character of another class
pub hit : (k : Class) (s : List ℕ) (i : ℕ) → i < length s → is_in k (get_or s i 0) ≡ false → run k (drop i s) ≡ 0
unfolding run
hit k s i h e = rw (drop-cons s i 0, e)

-- and goes on past one of the class
pub miss : (k : Class) (s : List ℕ) (i : ℕ) → i < length s → is_in k (get_or s i 0) ≡ true → run k (drop i s) ≡ suc (run k (drop (suc i) s))
unfolding run
miss k s i h e = rw (drop-cons s i 0, e)

pub at-end : (k : Class) (s : List ℕ) (i : ℕ) → length s ≤ i → run k (drop i s) ≡ 0
unfolding run
at-end k [] zero h = refl
at-end k [] (suc i) h = refl
at-end k (x ∷ xs) zero h = absurd (omega arith)
at-end k (x ∷ xs) (suc i) h = at-end k xs i (omega arith)

-- a run is no longer than the text
pub short : (k : Class) (s : List ℕ) → run k s ≤ length s
unfolding run
short k [] = omega arith
short k (x ∷ xs) = go (is_in k x) (short k xs) where
  go : (b : Bool) → run k xs ≤ length xs → cond b (suc (run k xs)) 0 ≤ suc (length xs)
  go true h = omega arith
  go false h = omega arith
