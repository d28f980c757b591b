-- Sizes in the normalized form, number by number.
use mathlib.Core.Path.{◌≡◌, refl, sym, ap, ◌∙◌}
use mathlib.Core.Bool.{Bool, true, false}
use mathlib.Core.List.{List, [], ◌∷◌, ◌++◌}
use Prim.Native.Nat.{ℕ, ◌-◌, ◌≤◌, ◌<◌}
use native.Mathlib.Omega.{arith}
use borrow.Author.Tests.{eq-eqb, ne_eqb, lt-ltb, ltb-true}
use lib.ListN.{length, take, drop, get_or, length-take, length-drop}
use Rattle.digits.specs.Digits.{decimal}
use Rattle.dsdl_text.specs.Text.{chars}
use Rattle.dsdl_text.proofs.Parts.{rest}
use Rattle.dsdl_number.specs.Integer.{value, base_of, digits_of}
use Rattle.dsdl_number.proofs.Literals.{base-bound}
use Rattle.dsdl_type.specs.declared.size.Bounds.TheVariants.{Exactly, Below, AtMost}
use Rattle.dsdl_type.specs.Size.{unsigned, count, bounds_of, items_by, is_bracketed, inside, items, size_fits, bracket, size_form}
use Rattle.dsdl_type.proofs.Sizes.{no-count, no_size, bracket-length}
use Rattle.dsdl_form.specs.inside.Numerals.{Numeral}
use Rattle.dsdl_form.specs.inside.Placed.{Fits}
use Rattle.dsdl_form.proofs.Literals.{base-digits}

-- a number that is written by another name
pub passed : (k n less at : ℕ) → k ≡ n - less → 0 < k → Fits at (decimal k) → (less < n) × Fits at (decimal (n - less))
passed k n less at e p h = (omega arith, rw (← e) h)

-- ── integer literals ──

no-base : (l : List ℕ) → base_of l ≡ 0 → unsigned l ≡ 0
no-base l e = rw e

positive : (n : ℕ) → (n ≡ 0 → ⊥) → 0 < n
positive n h = omega arith

pub based : (l : List ℕ) → 0 < unsigned l → 0 < base_of l
based l h = positive (base_of l) (λ e. let z = no-base l e in omega arith)

module _ (l ds : List ℕ) (b less : ℕ) (eb : b ≡ base_of l) (ed : ds ≡ digits_of l) (some : less < unsigned l) where
  here : 0 < base_of l
  here = based l (omega arith)

  pub same_number : unsigned l ≡ value b ds
  same_number = rw (lt-ltb 0 (base_of l) here, eb, ed)

  pub asked : (at : ℕ) → less ≤ 1 → Fits at (decimal (unsigned l - less)) → Numeral at ds b less
  asked at s h =
      let f = passed (unsigned l - less) (value b ds) less at (ap (λ (k : ℕ). k - less) same_number) (omega arith) h in
      ((omega (arith, here), omega (arith, base-bound l)), (rw (eb, ed) (base-digits l here), (s, (omega (arith, f.0), f.1))))

  pub as-literal : decimal (value b ds - less) ≡ decimal (unsigned l - less)
  as-literal = ap (λ (k : ℕ). decimal (k - less)) (sym same_number)

pub all_digits : (l : List ℕ) (b : ℕ) → b ≡ base_of l → b ≡ 10 → l ≡ digits_of l
all_digits l b e t = let z : base_of l ≡ 10 = sym e ∙ t in rw z

pub behind-prefix : (l : List ℕ) (b : ℕ) → b ≡ base_of l → (b ≡ 10 → ⊥) → take (length l - 2) (drop 2 l) ≡ digits_of l
behind-prefix l b e t = rw (ne_eqb (base_of l) 10 (λ z. t (e ∙ z))) (rest 2 l)

pub part_length : (l : List ℕ) (n k : ℕ) → length l ≤ 4096 → length (take n (drop k l)) ≤ 4096
part_length l n k h = omega (arith, length-take n (drop k l), length-drop k l)

-- ── with a plus or none ──

pub one-there : (l : List ℕ) (less : ℕ) → less < count l → 1 ≤ length l
one-there [] less h = let z = no-count [] refl in absurd (omega arith)
one-there (x ∷ xs) less h = omega arith

pub with-plus : (l : List ℕ) → get_or l 0 0 ≡ 43 → count l ≡ unsigned (take (length l - 1) (drop 1 l))
with-plus l e = rw (eq-eqb (get_or l 0 0) 43 e) (ap unsigned (sym (rest 1 l)))

pub no_plus : (l : List ℕ) → (get_or l 0 0 ≡ 43 → ⊥) → count l ≡ unsigned l
no_plus l e = rw (ne_eqb (get_or l 0 0) 43 e)

-- ── the number of items ──

module _ (l : List ℕ) where
  pub exactly : bounds_of l ≡ Exactly → items_by (bounds_of l) l ≡ count l - 0
  exactly e = rw e (omega arith)

  pub below : bounds_of l ≡ Below → items_by (bounds_of l) l ≡ count (take (length l - 1) (drop 1 l)) - 1
  below e = rw e (ap (λ (x : List ℕ). count x - 1) (sym (rest 1 l)))

  pub at-most : bounds_of l ≡ AtMost → items_by (bounds_of l) l ≡ count (take (length l - 2) (drop 2 l)) - 0
  at-most e = let z = ap count (rest 2 l) in rw e (omega arith)

-- ── the whole size ──

pub no-form : (s : List ℕ) → length s ≡ 0 → [] ≡ size_form s
unfolding size_form
no-form s e = rw e

module _ (s : List ℕ) (h : length s ≡ 0 → ⊥) (f : size_fits s ≡ true) where
  some-items : 0 < items s
  some-items = ltb-true 0 (items s) (rw (ne_eqb (length s) 0 h) at f)

  bracketed : is_bracketed s ≡ true
  bracketed = go (is_bracketed s) refl where
    go : (b : Bool) → is_bracketed s ≡ b → b ≡ true
    go true e = refl
    go false e = let z = no_size s e in absurd (omega (arith, some-items))

  pub two-there : 2 ≤ length s
  two-there = bracket-length s bracketed

  abbrev within : List ℕ
  within = take (length s - 1 - 1) (drop 1 s)

  in-brackets : within ≡ inside s
  in-brackets = let z : length s - 1 - 1 ≡ length s - 2 = omega arith in rw bracketed (ap (λ (n : ℕ). take n (drop 1 s)) z)

  pub items-there : 0 < items_by (bounds_of within) within
  unfolding items
  items-there = rw in-brackets some-items

  pub in-form : size_form s ≡ bracket (bounds_of within) ++ (decimal (items_by (bounds_of within) within) ++ chars "]")
  unfolding size_form items
  in-form = rw (ne_eqb (length s) 0 h) (ap (λ (x : List ℕ). bracket (bounds_of x) ++ (decimal (items_by (bounds_of x) x) ++ chars "]")) (sym in-brackets))
