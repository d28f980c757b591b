-- Laws of `same`.
use mathlib.Core.Path.{◌≡◌, refl, sym, ap}
use mathlib.Core.Bool.{Bool, true, false, ◌&&◌}
use mathlib.Core.List.{List, [], ◌∷◌}
use Prim.Native.Nat.{ℕ, suc, ◌<◌}
use lib.Dec.{eqb}
use borrow.Author.Tests.{eq-eqb, ne_eqb}
use lib.ListN.{length, get_or, drop}
use lib.Seq.{drop-cons, drop-length}
use Rattle.dsdl_text.specs.Text.{same}

and-false : (b : Bool) → false ≡ b && false
and-false true = refl
and-false false = refl

-- texts of different lengths
pub unlike : (a b : List ℕ) → (length a ≡ length b → ⊥) → false ≡ same a b
unfolding same
unlike [] [] h = absurd (h refl)
unlike [] (y ∷ ys) h = refl
unlike (x ∷ xs) [] h = refl
unlike (x ∷ xs) (y ∷ ys) h = rw (sym (unlike xs ys (λ e. h (ap suc e)))) (and-false (eqb x y))

module _ (a b : List ℕ) (i : ℕ) (ha : i < length a) (hb : i < length b) where
  pub like : get_or a i 0 ≡ get_or b i 0 → same (drop i a) (drop i b) ≡ same (drop (suc i) a) (drop (suc i) b)
  unfolding same
  like e = rw (drop-cons a i 0 ha, drop-cons b i 0 hb, eq-eqb (get_or a i 0) (get_or b i 0) e)

  pub differs : (get_or a i 0 ≡ get_or b i 0 → ⊥) → same (drop i a) (drop i b) ≡ false
  unfolding same
  differs e = rw (drop-cons a i 0 ha, drop-cons b i 0 hb, ne_eqb (get_or a i 0) (get_or b i 0) e)

pub done : (a b : List ℕ) (i : ℕ) → i ≡ length a → i ≡ length b → same (drop i a) (drop i b) ≡ true
unfolding same
done a b i ea eb = rw (sym (drop-end a i ea)) (rw (sym (drop-end b i eb)) refl) where
  drop-end : (s : List ℕ) (n : ℕ) → n ≡ length s → [] ≡ drop n s
  drop-end s n e = rw e (sym (drop-length s))
