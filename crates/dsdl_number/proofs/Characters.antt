-- Laws of characters in quotes.
use mathlib.Core.Path.{◌≡◌, refl, ap, ◌∙◌}
use mathlib.Core.Bool.{Bool, true, false, cond}
use mathlib.Core.List.{List, [], ◌∷◌}
use Prim.Native.Nat.{ℕ, ◌-◌, ◌≤◌, ◌<◌, min}
use native.Mathlib.Omega.{arith}
use borrow.Author.Tests.{le-leb, lt-leb, eq-eqb, ne_eqb}
use lib.Dec.{eqb}
use lib.ListN.{length, get_or, take, drop}
use Rattle.dsdl_text.specs.declared.class.Class.TheVariants.{Blank, Hexadecimal}
use Rattle.dsdl_text.specs.Class.{all, many}
use Rattle.dsdl_text.specs.Text.{first}
use Rattle.dsdl_text.proofs.Parts.{rest}
use Rattle.dsdl_number.specs.Integer.{value}
use Rattle.dsdl_number.specs.Number.{escape, is_closed, plain, coded, quoted}
use Rattle.dsdl_number.specs.inside.Capped.{cap}

-- ── a character alone ──

module _ (c : ℕ) where
  module _ (h : 32 ≤ c) where
    module _ (k : c ≤ 126) where
      pub quote : c ≡ 39 → 256 ≡ plain c
      quote e = rw (le-leb 32 c h, le-leb c 126 k, eq-eqb c 39 e)

      pub other : (c ≡ 39 → ⊥) → c ≡ plain c
      other e = rw (le-leb 32 c h, le-leb c 126 k, ne_eqb c 39 e)

-- ── digits ──

module _ (s : List ℕ) (v : ℕ) (e : many Hexadecimal s ≡ true) (q : v ≡ min (value 16 s) cap) where
  pub small : v ≤ 127 → v ≡ coded s
  small h =
      let z : v ≡ value 16 s = omega arith in
      let l : value 16 s ≤ 127 = omega arith in
      rw (e, le-leb (value 16 s) 127 l) z

  pub large : 127 < v → 256 ≡ coded s
  large h = let l : 127 < value 16 s = omega arith in rw (e, lt-leb (value 16 s) 127 l)

-- ── the closing quote ──

module _ (s : List ℕ) (n : ℕ) where
  pub closed : (r : Bool) → n ≤ length s → get_or s (n - 1) 0 ≡ 39 → r ≡ all Blank (take (length s - n) (drop n s))
      → (r ≡ is_closed n s) × (r ≡ true → n ≤ length s)
  closed r h e q = (rw (eq-eqb (get_or s (n - 1) 0) 39 e) (q ∙ ap (all Blank) (rest n s)), λ t. h)

-- ── what follows the opening quote ──

pub two-few : (s : List ℕ) → length s < 2 → 256 ≡ quoted s
unfolding quoted
two-few [] h = refl
two-few (x ∷ []) h = go (eqb x 92) where
  go : (b : Bool) → ◌≡◌ {A = ℕ} 256 (cond b 256 256)
  go true = refl
  go false = refl
two-few (x ∷ (y ∷ ys)) h = absurd (omega arith)

module _ (s : List ℕ) where
  module _ (e : first s ≡ 92 → ⊥) where
    pub alone : (r : ℕ) → is_closed 2 s ≡ true → r ≡ plain (first s) → r ≡ quoted s
    unfolding quoted
    alone r t q = rw (ne_eqb (first s) 92 e, t) q

    pub alone-open : is_closed 2 s ≡ false → 256 ≡ quoted s
    unfolding quoted
    alone-open t = rw (ne_eqb (first s) 92 e, t)

  module _ (e : first s ≡ 92) where
    module _ (f : get_or s 1 0 ≡ 120 → ⊥) where
      pub letter : (r : ℕ) → is_closed 3 s ≡ true → r ≡ escape (get_or s 1 0) → r ≡ quoted s
      unfolding quoted
      letter r t q = rw (eq-eqb (first s) 92 e, ne_eqb (get_or s 1 0) 120 f, t) q

      pub letter-open : is_closed 3 s ≡ false → 256 ≡ quoted s
      unfolding quoted
      letter-open t = rw (eq-eqb (first s) 92 e, ne_eqb (get_or s 1 0) 120 f, t)

    module _ (f : get_or s 1 0 ≡ 120) where
      pub digits : (r : ℕ) → is_closed 5 s ≡ true → r ≡ coded (take 2 (drop 2 s)) → r ≡ quoted s
      unfolding quoted
      digits r t q = rw (eq-eqb (first s) 92 e, eq-eqb (get_or s 1 0) 120 f, t) q

      pub digits-open : is_closed 5 s ≡ false → 256 ≡ quoted s
      unfolding quoted
      digits-open t = rw (eq-eqb (first s) 92 e, eq-eqb (get_or s 1 0) 120 f, t)
