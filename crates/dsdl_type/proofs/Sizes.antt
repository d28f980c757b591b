-- Laws of sizes.
use mathlib.Core.Path.{◌≡◌, refl, sym, ap, ◌∙◌}
use mathlib.Core.Bool.{Bool, true, false, cond, ◌&&◌}
use mathlib.Core.List.{List, [], ◌∷◌}
use Prim.Native.Nat.{ℕ, zero, suc, ◌-◌, ◌≤◌, min}
use native.Mathlib.Omega.{arith}
use borrow.Author.Tests.{eq-eqb, ne_eqb, lt-ltb, leb-true}
use lib.Dec.{leb, eqb, ltb}
use lib.ListN.{length, get_or, take, drop}
use Rattle.dsdl_text.specs.Class.{is_in, run}
use Rattle.dsdl_text.specs.Text.{same, first}
use Rattle.dsdl_text.proofs.Parts.{rest}
use Rattle.dsdl_number.specs.Integer.{base_of}
use Rattle.dsdl_number.specs.inside.Capped.{cap}
use Rattle.dsdl_type.specs.declared.size.Bounds.{Bounds}
use Rattle.dsdl_type.specs.declared.size.Bounds.TheVariants.{Exactly, Below, AtMost}
use Rattle.dsdl_type.specs.Size.{unsigned, count, bounds_of, items_by, is_bracketed, items, size_fits}

-- ── how a size is written ──

pub at-most : (s : List ℕ) → get_or s 0 0 ≡ 60 → get_or s 1 0 ≡ 61 → AtMost ≡ bounds_of s
at-most s e h = rw (eq-eqb (get_or s 0 0) 60 e, eq-eqb (get_or s 1 0) 61 h)

pub below : (s : List ℕ) → get_or s 0 0 ≡ 60 → (get_or s 1 0 ≡ 61 → ⊥) → Below ≡ bounds_of s
below s e h = rw (eq-eqb (get_or s 0 0) 60 e, ne_eqb (get_or s 1 0) 61 h)

-- ── numbers ──

pub no-count : (s : List ℕ) → length s ≡ 0 → 0 ≡ min (count s) cap
unfolding base_of same is_in run
no-count [] h = refl
no-count (x ∷ xs) h = absurd (omega arith)

pub with-plus : (s : List ℕ) (r : ℕ) → get_or s 0 0 ≡ 43 → r ≡ min (unsigned (take (length s - 1) (drop 1 s))) cap → r ≡ min (count s) cap
with-plus s r e q = rw (eq-eqb (get_or s 0 0) 43 e) (q ∙ ap (λ (l : List ℕ). min (unsigned l) cap) (rest 1 s))

pub no_plus : (s : List ℕ) (r : ℕ) → (get_or s 0 0 ≡ 43 → ⊥) → r ≡ min (unsigned s) cap → r ≡ min (count s) cap
no_plus s r e q = rw (ne_eqb (get_or s 0 0) 43 e) q

-- ── items ──

pub told : (s : List ℕ) (b k : Bounds) → b ≡ bounds_of s → b ≡ k → bounds_of s ≡ k
told s b k e h = sym e ∙ h

pub one-there : (s : List ℕ) → bounds_of s ≡ Below → 1 ≤ length s
one-there [] e = let z : ◌≡◌ {A = ℕ} 0 1 = cc in absurd (omega arith)
one-there (x ∷ xs) e = omega arith

pub two-there : (s : List ℕ) → bounds_of s ≡ AtMost → 2 ≤ length s
two-there [] e = let z : ◌≡◌ {A = ℕ} 0 1 = cc in absurd (omega arith)
two-there (x ∷ []) e = go (eqb x 60) e where
  go : (b : Bool) → cond b Below Exactly ≡ AtMost → 2 ≤ 1
  go true q = let z : ◌≡◌ {A = ℕ} 0 1 = cc in absurd (omega arith)
  go false q = let z : ◌≡◌ {A = ℕ} 0 1 = cc in absurd (omega arith)
two-there (x ∷ (y ∷ ys)) e = omega arith

pub no_size : (s : List ℕ) → is_bracketed s ≡ false → 0 ≡ min (items s) (cap - 1)
unfolding items base_of same is_in run
no_size s e = rw e

pub bracket-length : (s : List ℕ) → is_bracketed s ≡ true → 2 ≤ length s
bracket-length s e = go (leb 2 (length s)) refl e where
  go : (b : Bool) → leb 2 (length s) ≡ b → (b && (eqb (first s) 91 && eqb (get_or s (length s - 1) 0) 93)) ≡ true → 2 ≤ length s
  go true p q = leb-true 2 (length s) p
  go false p q = let z : ◌≡◌ {A = ℕ} 0 1 = cc in absurd (omega arith)

pub sized : (s : List ℕ) (r : ℕ) → is_bracketed s ≡ true
    → r ≡ min (items_by (bounds_of (take (length s - 1 - 1) (drop 1 s))) (take (length s - 1 - 1) (drop 1 s))) (cap - 1) → r ≡ min (items s) (cap - 1)
unfolding items
sized s r e q =
    let z : length s - 1 - 1 ≡ length s - 2 = omega arith in
    rw e (q ∙ ap (λ (k : ℕ). min (items_by (bounds_of (take k (drop 1 s))) (take k (drop 1 s))) (cap - 1)) z)

pub some-items : (s : List ℕ) (n : ℕ) → (length s ≡ 0 → ⊥) → n ≡ min (items s) (cap - 1) → ltb 0 n ≡ size_fits s
some-items s n h e = rw (ne_eqb (length s) 0 h) (go (items s) e) where
  go : (k : ℕ) → n ≡ min k (cap - 1) → ltb 0 n ≡ ltb 0 k
  go zero q = let z : n ≡ 0 = omega arith in rw z
  go (suc k) q = lt-ltb 0 n (omega arith) ∙ sym (lt-ltb 0 (suc k) (omega arith))
