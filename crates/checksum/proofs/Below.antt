-- A test that antt computes for each number below n holds at each of them.
use mathlib.Core.Path.{◌≡◌, refl, subst, sym}
use borrow.Author.Tests.{eqb-true, eqb-false}
use mathlib.Core.Bool.{Bool, true, false}
use Prim.Native.Nat.{ℕ, zero, suc, ◌<◌}
use native.Mathlib.Omega.{arith}
use native.Mathlib.Nat.{le_of_suc-le-suc}
use lib.Arith.{lt_of_le-ne}
use lib.Dec.{T, eqb, eqb→eq}

abbrev pub both : Bool → Bool → Bool
both true b = b
both false b = false

both_left : (a b : Bool) → T (both a b) → T a
both_left true b t = tt
both_left false b t = t

both_right : (a b : Bool) → T (both a b) → T b
both_right true b t = t
both_right false b t = absurd t

abbrev pub all : (ℕ → Bool) → ℕ → Bool
all f zero = true
all f (suc n) = both (f n) (all f n)

last : (f : ℕ → Bool) (n k : ℕ) → k < suc n → T (f n) → (k < n → T (f k)) → (b : Bool) → eqb k n ≡ b → T (f k)
last f n k h t g true e = subst (λ (m : ℕ). T (f m)) (sym (eqb-true k n e)) t
last f n k h t g false e = g (lt_of_le-ne (le_of_suc-le-suc h) (eqb-false k n e))

pub below : (f : ℕ → Bool) (n : ℕ) → T (all f n) → (k : ℕ) → k < n → T (f k)
below f zero t k h = absurd (omega arith)
below f (suc n) t k h =
    last f n k h (both_left (f n) (all f n) t) (λ l. below f n (both_right (f n) (all f n) t) k l) (eqb k n) refl

-- two functions that agree below n, as a computed test shows
pub agree : (f g : ℕ → ℕ) (n : ℕ) → T (all (λ k. eqb (f k) (g k)) n) → (k : ℕ) → k < n → f k ≡ g k
agree f g n t k h = eqb→eq (f k) (g k) (below (λ k. eqb (f k) (g k)) n t k h)
