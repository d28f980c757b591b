-- Laws of the full names of nested types.
use mathlib.Core.Path.{◌≡◌, refl, sym, ap, ◌∙◌}
use mathlib.Core.Bool.{Bool, true, false, ◌&&◌, and_assoc}
use mathlib.Core.List.{List, [], ◌∷◌, ◌++◌}
use Prim.Native.Nat.{ℕ, ◌≤◌, ◌<◌}
use native.Mathlib.Omega.{arith}
use lib.Dec.{eqb}
use lib.ListN.{length, take, drop, length-append}
use Rattle.dsdl_text.proofs.Texts.{unlike}
use Rattle.dsdl_text.specs.Text.{same}
use Rattle.dsdl_text.specs.Names.{has_dot, full_name}

same-append : (a b c : List ℕ) → length a ≤ length c → same (a ++ b) c ≡ same a (take (length a) c) && same b (drop (length a) c)
unfolding same
same-append [] b c h = refl
same-append (x ∷ xs) b [] h = absurd (omega arith)
same-append (x ∷ xs) b (y ∷ ys) h =
    rw (same-append xs b ys (omega arith)) (sym (and_assoc (eqb x y) (same xs (take (length xs) ys)) (same b (drop (length xs) ys))))

module _ (space base name : List ℕ) where
  pub full : (r : Bool) → has_dot base ≡ true → r ≡ same base name → r ≡ same (full_name space base) name
  full r d e = rw d e

  module _ (d : has_dot base ≡ false) where
    pub too_short : length name < length space → false ≡ same (full_name space base) name
    too_short h = rw d (unlike (space ++ base) name (λ e. omega (arith, length-append space base)))

    module _ (k : ℕ) (n : k ≡ length space) (h : k ≤ length name) where
      pub elsewhere : same space (take k name) ≡ false → false ≡ same (full_name space base) name
      elsewhere e = rw d (rw (same-append space base name (omega arith), sym n, e) refl)

      pub inside : (r : Bool) → same space (take k name) ≡ true → r ≡ same base (drop (length space) name) → r ≡ same (full_name space base) name
      inside r e f = rw d (rw (same-append space base name (omega arith)) (rw (ap (λ (j : ℕ). same space (take j name)) (sym n) ∙ e) f))
