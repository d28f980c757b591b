-- Laws of dotted names and of the last dot.
use mathlib.Core.Path.{◌≡◌, refl, ap, ◌∙◌}
use mathlib.Core.Bool.{Bool, true, false, not, cond}
use mathlib.Core.List.{List, [], ◌∷◌}
use Prim.Native.Nat.{ℕ, suc, ◌<◌}
use native.Mathlib.Omega.{arith}
use lib.Dec.{eqb}
use borrow.Author.Tests.{eq-eqb, ne_eqb}
use lib.ListN.{length, get_or, drop}
use lib.Seq.{drop-cons, drop-length}
use Rattle.dsdl_text.specs.Names.{is_name, goes_on, dotted_from, last_dot}
use Rattle.dsdl_text.specs.Class.{is_in}

pub no_name : (s : List ℕ) → length s ≡ 0 → false ≡ is_name s
unfolding is_in
no_name [] h = refl
no_name (x ∷ xs) h = absurd (omega arith)

-- a turn that goes on, one that stops, and the end
pub on : (b : Bool) (s : List ℕ) (i : ℕ) → i < length s → goes_on b (get_or s i 0) ≡ true
    → dotted_from b (drop i s) ≡ dotted_from (eqb (get_or s i 0) 46) (drop (suc i) s)
unfolding dotted_from
on b s i h e = rw (drop-cons s i 0, e)

pub off : (b : Bool) (s : List ℕ) (i : ℕ) → i < length s → goes_on b (get_or s i 0) ≡ false → dotted_from b (drop i s) ≡ false
unfolding dotted_from
off b s i h e = rw (drop-cons s i 0, e)

pub done : (b : Bool) (s : List ℕ) (i : ℕ) → i ≡ length s → dotted_from b (drop i s) ≡ not b
unfolding dotted_from
done b s i e = rw (e, drop-length s)

turn : (s : List ℕ) (i end : ℕ) → i < length s
    → last_dot i end (drop i s) ≡ last_dot (suc i) (cond (eqb (get_or s i 0) 46) (suc i) end) (drop (suc i) s)
unfolding last_dot
turn s i end h = rw (drop-cons s i 0)

pub dot : (s : List ℕ) (i end : ℕ) → i < length s → get_or s i 0 ≡ 46 → last_dot i end (drop i s) ≡ last_dot (suc i) (suc i) (drop (suc i) s)
dot s i end h e =
    turn s i end h ∙ ap (λ (b : Bool). last_dot (suc i) (cond b (suc i) end) (drop (suc i) s)) (eq-eqb (get_or s i 0) 46 e)

pub other : (s : List ℕ) (i end : ℕ) → i < length s → (get_or s i 0 ≡ 46 → ⊥) → last_dot i end (drop i s) ≡ last_dot (suc i) end (drop (suc i) s)
other s i end h e =
    turn s i end h ∙ ap (λ (b : Bool). last_dot (suc i) (cond b (suc i) end) (drop (suc i) s)) (ne_eqb (get_or s i 0) 46 e)

pub found : (s : List ℕ) (i end : ℕ) → i ≡ length s → last_dot i end (drop i s) ≡ end
unfolding last_dot
found s i end e = rw (e, drop-length s)
