-- How often a key is in a table.
use mathlib.Core.Path.{◌≡◌, refl, sym, ap, ap₂, ◌∙◌}
use mathlib.Core.Bool.{Bool, true, false, not}
use mathlib.Core.List.{List, [], ◌∷◌}
use Prim.Native.Nat.{ℕ, zero, suc, ◌+◌, ◌-◌, ◌≤◌, ◌<◌}
use native.Mathlib.Omega.{arith}
use borrow.Author.Tests.{eq-eqb, ne_eqb, eqb-true}
use lib.Dec.{eqb}
use lib.ListN.{length, drop, get_or, length-drop}
use lib.Seq.{drop-cons, get_or-drop}
use mir.Val.{bool_byte}
use Rattle.keys.specs.inside.Keys.{count}

pub byte_le : (b : Bool) → bool_byte b ≤ 1
byte_le true = omega arith
byte_le false = omega arith

module _ (k : ℕ) where
  pub count-le : (xs : List ℕ) → count k xs ≤ length xs
  unfolding count
  count-le [] = omega arith
  count-le (x ∷ xs) = omega (arith, byte_le (eqb x k), count-le xs)

  -- every place has it
  pub count-all : (xs : List ℕ) → count k xs ≡ length xs → (l : ℕ) → l < length xs → get_or xs l 0 ≡ k
  unfolding count
  count-all [] e l h = absurd (omega arith)
  count-all (x ∷ xs) e zero h = go (eqb x k) refl (omega (arith, count-le xs, byte_le (eqb x k))) where
    go : (t : Bool) → eqb x k ≡ t → bool_byte t ≡ 1 → x ≡ k
    go true q o = eqb-true x k q
    go false q o = absurd (omega arith)
  count-all (x ∷ xs) e (suc l) h = count-all xs (omega (arith, count-le xs, byte_le (eqb x k))) l (omega arith)

  -- no place has it
  pub count_none : (xs : List ℕ) → ((l : ℕ) → l < length xs → get_or xs l 0 ≡ k → ⊥) → count k xs ≡ 0
  unfolding count
  count_none [] h = refl
  count_none (x ∷ xs) h =
      ap₂ (λ b c. bool_byte b + c) (ne_eqb x k (h 0 (omega arith))) (count_none xs (λ l b. h (suc l) (omega arith)))

  -- a place has it
  pub count-some : (xs : List ℕ) (l : ℕ) → l < length xs → get_or xs l 0 ≡ k → 1 ≤ count k xs
  unfolding count
  count-some [] l h e = absurd (omega arith)
  count-some (x ∷ xs) zero h e = omega (arith, ap bool_byte (eq-eqb x k e))
  count-some (x ∷ xs) (suc l) h e = omega (arith, count-some xs l (omega arith) e)

  -- two places have it
  pub count-two : (xs : List ℕ) (a l : ℕ) → a < l → l < length xs → get_or xs a 0 ≡ k → get_or xs l 0 ≡ k → 2 ≤ count k xs
  unfolding count
  count-two [] a l o h d e = absurd (omega arith)
  count-two (x ∷ xs) a zero o h d e = absurd (omega arith)
  count-two (x ∷ xs) zero (suc l) o h d e = omega (arith, ap bool_byte (eq-eqb x k d), count-some xs l (omega arith) e)
  count-two (x ∷ xs) (suc a) (suc l) o h d e = omega (arith, count-two xs a l (omega arith) (omega arith) d e)

-- of the places from i on, so many are in use
pub left_step : (xs : List ℕ) (i left : ℕ) → i < length xs → 0 < left → left + count 0 (drop i xs) ≡ length xs - i
    → left - bool_byte (not (eqb (get_or xs i 0) 0)) + count 0 (drop (suc i) xs) ≡ length xs - suc i
unfolding count
left_step xs i left h l e = go (eqb (get_or xs i 0) 0) (ap (λ x. left + count 0 x) (sym (drop-cons xs i 0 h)) ∙ e) where
  later : ℕ
  later = count 0 (drop (suc i) xs)

  go : (b : Bool) → left + (bool_byte b + later) ≡ length xs - i → left - bool_byte (not b) + later ≡ length xs - suc i
  go true q = omega arith
  go false q = omega arith

-- none of them is
pub rest-empty : (xs : List ℕ) (i : ℕ) → count 0 (drop i xs) ≡ length xs - i → (j : ℕ) → i ≤ j → j < length xs → get_or xs j 0 ≡ 0
rest-empty xs i e j a b =
    let q : i + (j - i) ≡ j = omega arith in
    ap (λ (n : ℕ). get_or xs n 0) (sym q) ∙ sym (get_or-drop i xs (j - i) 0)
    ∙ count-all 0 (drop i xs) (e ∙ sym (length-drop i xs)) (j - i) (omega (arith, length-drop i xs))
