-- A size in a form is read back, and stays as it is.
use mathlib.Core.Path.{◌≡◌, refl, sym, ap, ◌∙◌}
use mathlib.Core.Bool.{Bool, true, false, cond, ◌&&◌, ◌||◌}
use mathlib.Core.List.{List, [], ◌∷◌, ◌++◌}
use mathlib.Core.Logic.{⊎_elim}
use Prim.Native.Nat.{ℕ, zero, suc, ◌+◌, ◌*◌, ◌-◌, ◌/◌, ◌%◌, ◌≤◌, ◌<◌}
use native.Mathlib.Nat.{zero-add, mod-lt, mod-eq_of_lt, div-one, div-add-mod'}
use native.Mathlib.Omega.{arith}
use lib.Dec.{leb, ltb, eqb, lit<}
use borrow.Author.Tests.{leb-true, le-leb, lt-ltb, ltb-true, ltb-false, ne_eqb, eq-eqb}
use lib.ListN.{length, get_or, length-append}
use lib.Seq.{take_at, get_or_at}
use Rattle.digits.specs.Digits.{digits, count_of, decimal}
use Rattle.digits.proofs.Digits.{glyph-low, digits-snoc, count-one, count-more}
use Rattle.dsdl_text.specs.declared.class.Class.TheVariants.{Positive, Decimal}
use Rattle.dsdl_text.specs.Text.{chars, same, first}
use Rattle.dsdl_text.specs.Class.{is_in, all}
use Rattle.dsdl_number.specs.Integer.{digit_of, value_from, value, is_decimal, base_of}
use Rattle.dsdl_type.specs.declared.size.Bounds.{Bounds}
use Rattle.dsdl_type.specs.declared.size.Bounds.TheVariants.{Exactly, Below, AtMost}
use Rattle.dsdl_type.specs.Size.{count, bounds_of, items_by, is_bracketed, inside, items, size_fits, bracket, size_form}
use Rattle.dsdl_laws.proofs.Characters.{no, and_left, and_right, decided, each_all}
use Rattle.dsdl_laws.proofs.Bases.{in-digits}

-- ── numbers ──

one-digit : (n : ℕ) → n < 10 → decimal n ≡ (48 + n) ∷ []
unfolding decimal digits
one-digit n h = rw (count-one n h, div-one n, mod-eq_of_lt h, glyph-low n h)

more-digits : (n : ℕ) → 10 ≤ n → decimal n ≡ decimal (n / 10) ++ ((48 + n % 10) ∷ [])
unfolding decimal
more-digits n h =
    ap (λ (w : ℕ). digits 10 w n) (count-more n h) ∙ (digits-snoc 10 (count_of (n / 10)) n
    ∙ ap (λ (c : ℕ). digits 10 (count_of (n / 10)) (n / 10) ++ (c ∷ [])) (glyph-low (n % 10) (mod-lt n (lit< tt))))

value-snoc : (a : ℕ) (l : List ℕ) (c : ℕ) → value_from 10 a (l ++ (c ∷ [])) ≡ value_from 10 a l * 10 + digit_of c
unfolding value_from
value-snoc a [] c = refl
value-snoc a (x ∷ l) c = value-snoc (a * 10 + digit_of x) l c

digit_value : (d : ℕ) → d < 10 → digit_of (48 + d) ≡ d
digit_value d h = rw (lt-ltb (48 + d) 58 (omega arith)) (omega arith)

digit-positive : (d : ℕ) → 1 ≤ d → d < 10 → is_in Positive (48 + d) ≡ true
unfolding is_in
digit-positive d h k = rw (le-leb 49 (48 + d) (omega arith), le-leb (48 + d) 57 (omega arith))

still-positive : (l m : List ℕ) → is_in Positive (first l) ≡ true → is_in Positive (first (l ++ m)) ≡ true
unfolding is_in
still-positive [] m e = no e
still-positive (c ∷ l) m e = e

-- no zero in front, and the value
abbrev Numeral : ℕ → Type 0
Numeral n = (is_in Positive (first (decimal n)) ≡ true) × (value 10 (decimal n) ≡ n)

numeral : (d n : ℕ) → n ≤ d → 1 ≤ n → Numeral n
unfolding value_from
numeral zero n h k = absurd (omega arith)
numeral (suc d) n h k = ⊎_elim (λ q. small (ltb-true n 10 q)) (λ q. large (ltb-false n 10 q) (numeral d (n / 10))) (decided (ltb n 10)) where
  small : n < 10 → Numeral n
  small u = (
    ap (λ (l : List ℕ). is_in Positive (first l)) (one-digit n u) ∙ digit-positive n k u,
    ap (value 10) (one-digit n u) ∙ (zero-add (digit_of (48 + n)) ∙ digit_value n u),
  )

  large : 10 ≤ n → (n / 10 ≤ d → 1 ≤ n / 10 → Numeral (n / 10)) → Numeral n
  large u f =
      let r = f (omega arith) (omega arith) in
      let e = more-digits n u in
      let m : n % 10 < 10 = mod-lt n (lit< tt) in (
        ap (λ (l : List ℕ). is_in Positive (first l)) e ∙ still-positive (decimal (n / 10)) ((48 + n % 10) ∷ []) r.0,
        ap (value 10) e ∙ (value-snoc 0 (decimal (n / 10)) (48 + n % 10) ∙ (ap (λ (k : ℕ). k * 10 + digit_of (48 + n % 10)) r.1
            ∙ (ap (λ (k : ℕ). n / 10 * 10 + k) (digit_value (n % 10) m) ∙ div-add-mod' n 10))),
      )

from_one : (c : ℕ) → is_in Positive c ≡ true → (49 ≤ c) × (c ≤ 57)
unfolding is_in
from_one c e = (leb-true 49 c (and_left (leb 49 c) (leb c 57) e), leb-true c 57 (and_right (leb 49 c) (leb c 57) e))

module _ (n : ℕ) (h : 1 ≤ n) where
  abbrev text : List ℕ
  text = decimal n

  read : Numeral n
  read = numeral n n (omega arith) h

  first-digit : (49 ≤ first text) × (first text ≤ 57)
  first-digit = from_one (first text) read.0

  is-decimal : is_decimal text ≡ true
  unfolding decimal
  is-decimal = later (same text (chars "0")) (rw read.0 (each_all Decimal text (in-digits (count_of n) n))) where
    later : (b : Bool) → (is_in Positive (first text) && all Decimal text) ≡ true → (b || (is_in Positive (first text) && all Decimal text)) ≡ true
    later true e = refl
    later false e = e

  base : base_of text ≡ 10
  unfolding base_of
  base = rw is-decimal

  pub count-back : count text ≡ n
  count-back = let f = first-digit in rw (ne_eqb (first text) 43 (λ e. omega arith), base) read.1

  exactly : bounds_of text ≡ Exactly
  exactly = let f = first-digit in rw (ne_eqb (first text) 60 (λ e. omega arith))

-- ── brackets ──

module _ (m : List ℕ) where
  abbrev closed : List ℕ
  closed = 91 ∷ (m ++ (93 ∷ []))

  long : length closed ≡ suc (suc (length m))
  long = omega (arith, length-append m (93 ∷ []))

  bracketed : is_bracketed closed ≡ true
  bracketed =
      let l = long in
      let e : length closed - 1 ≡ suc (length m) = omega arith in
      let g : get_or closed (length closed - 1) 0 ≡ 93 = ap (λ (k : ℕ). get_or closed k 0) e ∙ get_or_at m 93 [] 0 (length m) refl in
      rw (le-leb 2 (length closed) (omega arith), eq-eqb (get_or closed (length closed - 1) 0) 93 g)

  inside-it : inside closed ≡ m
  inside-it = let l = long in rw bracketed (take_at m (93 ∷ []) (length closed - 2) (omega arith))

  items-in : items closed ≡ items_by (bounds_of m) m
  unfolding items
  items-in = ap (λ (l : List ℕ). items_by (bounds_of l) l) inside-it

  not-empty : eqb (length closed) 0 ≡ false
  not-empty = ne_eqb (length closed) 0 (λ e. omega arith)

  form_in : size_form closed ≡ bracket (bounds_of m) ++ (decimal (items_by (bounds_of m) m) ++ chars "]")
  unfolding size_form
  form_in = rw (not-empty, items-in, inside-it)

  fits_in : 1 ≤ items_by (bounds_of m) m → size_fits closed ≡ true
  fits_in h = rw (not-empty, items-in) (lt-ltb 0 (items_by (bounds_of m) m) h)

-- ── a size in a form ──

abbrev size_with : Bounds → ℕ → List ℕ
size_with k n = bracket k ++ (decimal n ++ chars "]")

stays : (k : Bounds) (n : ℕ) → 1 ≤ n → size_form (size_with k n) ≡ size_with k n
stays Exactly n h = form_in (decimal n) ∙ rw (exactly n h, count-back n h)
stays Below n h = form_in (60 ∷ (61 ∷ decimal n)) ∙ rw (count-back n h)
stays AtMost n h = form_in (60 ∷ (61 ∷ decimal n)) ∙ rw (count-back n h)

some-items : (k : Bounds) (n : ℕ) → 1 ≤ n → size_fits (size_with k n) ≡ true
some-items Exactly n h = fits_in (decimal n) (rw (exactly n h, count-back n h) h)
some-items Below n h = fits_in (60 ∷ (61 ∷ decimal n)) (rw (count-back n h) h)
some-items AtMost n h = fits_in (60 ∷ (61 ∷ decimal n)) (rw (count-back n h) h)

data Written (z : List ℕ) : Type 0 where
  unsized : z ≡ [] → Written z
  sized : (k : Bounds) (n : ℕ) → 1 ≤ n → z ≡ size_with k n → Written z

written : (s : List ℕ) → size_fits s ≡ true → Written (size_form s)
unfolding size_form
written s = go (eqb (length s) 0) where
  go : (b : Bool) → cond b true (ltb 0 (items s)) ≡ true → Written (cond b [] (size_with (bounds_of (inside s)) (items s)))
  go true e = unsized refl
  go false e = sized (bounds_of (inside s)) (items s) (ltb-true 0 (items s) e) refl

none : size_form [] ≡ []
unfolding size_form
none = refl

module _ (s : List ℕ) (e : size_fits s ≡ true) where
  pub size-again : size_form (size_form s) ≡ size_form s
  size-again = go (size_form s) (written s e) where
    go : (z : List ℕ) → Written z → size_form z ≡ z
    go z (unsized q) = ap size_form q ∙ (none ∙ sym q)
    go z (sized k n h q) = ap size_form q ∙ (stays k n h ∙ sym q)

  pub size-fits : size_fits (size_form s) ≡ true
  size-fits = go (size_form s) (written s e) where
    go : (z : List ℕ) → Written z → size_fits z ≡ true
    go z (unsized q) = ap size_fits q
    go z (sized k n h q) = ap size_fits q ∙ some-items k n h
