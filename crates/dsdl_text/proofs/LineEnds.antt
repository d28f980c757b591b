-- Laws of a line's end.
use mathlib.Core.Path.{◌≡◌, refl}
use mathlib.Core.Bool.{Bool, true, false, cond, ◌&&◌}
use mathlib.Core.List.{List, [], ◌∷◌}
use Prim.Native.Nat.{ℕ, zero, suc, ◌+◌, ◌≤◌}
use native.Mathlib.Omega.{arith}
use lib.Dec.{eqb}
use borrow.Author.Tests.{eq-eqb, ne_eqb}
use lib.ListN.{length, get_or}
use Rattle.dsdl_text.specs.inside.Lines.{after_end}

-- no character is past the end
pub beyond : (t : List ℕ) (i : ℕ) → length t ≤ i → get_or t i 0 ≡ 0
beyond [] i h = refl
beyond (x ∷ xs) zero h = absurd (omega arith)
beyond (x ∷ xs) (suc i) h = beyond xs i (omega arith)

pub with-feed : (t : List ℕ) (at : ℕ) → get_or t at 0 ≡ 13 → get_or t (at + 1) 0 ≡ 10 → at + 1 + 1 ≡ after_end t at
unfolding after_end
with-feed t at r f = rw (eq-eqb (get_or t at 0) 13 r, eq-eqb (get_or t (at + 1) 0) 10 f) (omega arith)

pub without-feed : (t : List ℕ) (at : ℕ) → (get_or t (at + 1) 0 ≡ 10 → ⊥) → at + 1 ≡ after_end t at
unfolding after_end
without-feed t at f = rw (ne_eqb (get_or t (at + 1) 0) 10 f) (go (eqb (get_or t at 0) 13)) where
  go : (b : Bool) → at + 1 ≡ cond (b && false) (at + 2) (at + 1)
  go true = refl
  go false = refl

pub last : (t : List ℕ) (at : ℕ) → length t ≤ at + 1 → at + 1 ≡ after_end t at
last t at h = without-feed t at (λ e. let z = beyond t (at + 1) h in omega arith)

pub returned : (t : List ℕ) (at : ℕ) → (get_or t at 0 ≡ 13 → ⊥) → at + 1 ≡ after_end t at
unfolding after_end
returned t at e = rw (ne_eqb (get_or t at 0) 13 e)
