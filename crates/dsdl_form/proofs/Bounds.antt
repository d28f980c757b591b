-- How long a form can be.
use mathlib.Core.Path.{◌≡◌, refl, sym, ap, ◌∙◌}
use mathlib.Core.Bool.{Bool, true, false, cond, ◌&&◌}
use mathlib.Core.List.{List, [], ◌∷◌, ◌++◌, map}
use Prim.Native.Nat.{ℕ, suc, ◌+◌, ◌*◌, ◌-◌, ◌^◌, ◌≤◌, ◌<◌}
use native.Mathlib.Decide.{dec_le}
use native.Mathlib.Nat.{one-le-pow, pow-suc, pow-le-pow_right, mul-le-mul, mul-suc, lt_of_not-le}
use native.Mathlib.Omega.{arith}
use lib.Dec.{eqb, lit<}
use lib.ListN.{length, take, drop, length-append, length-take, length-drop, take-append-drop}
use Rattle.digits.specs.Digits.{count_of, decimal}
use Rattle.digits.proofs.Digits.{length_digits, count-le}
use Rattle.dsdl_text.specs.declared.class.Class.TheVariants.{Bare, Blank, Visible, Inline, Unbracketed}
use Rattle.dsdl_text.specs.Class.{is_in, run}
use Rattle.dsdl_text.specs.Text.{chars, same, first}
use Rattle.dsdl_text.specs.Words.{bare, skip, word, past, ended}
use Rattle.dsdl_text.specs.Lines.{on_first, lines_after, lines}
use Rattle.dsdl_text.specs.Names.{is_name, has_dot, last_dot, space_of, full_name}
use Rattle.dsdl_number.specs.Number.{initializer}
use Rattle.dsdl_number.specs.Integer.{base_of as literal_base, digits_of}
use Rattle.dsdl_number.proofs.Literals.{base-bound}
use Rattle.dsdl_type.specs.declared.size.Bounds.{Bounds}
use Rattle.dsdl_type.specs.declared.size.Bounds.TheVariants.{Exactly, Below, AtMost}
use Rattle.dsdl_type.specs.Base.{base_text, size_text, base_of, is_nested, is_void}
use Rattle.dsdl_type.specs.Size.{unsigned, count, bounds_of, items_by, is_bracketed, inside, items, bracket, size_form}
use Rattle.dsdl_type.specs.Constant.{fits}
use Rattle.dsdl_line.specs.declared.shape.Cast.{Cast}
use Rattle.dsdl_line.specs.declared.shape.Cast.TheVariants.{Unsaid, Saturated, Truncated}
use Rattle.dsdl_line.specs.Line.{Shape, field_type, constant_type, attribute, cast_attribute, shape_with, judged, shape_of, line_of}
use Rattle.dsdl_line.specs.Line.Shape.{nothing, marker, union, padding, field, constant, wrong}
use Rattle.dsdl_line.specs.Line.Line.{constant as aConstant, wrong as aWrong}
use Rattle.dsdl.specs.Definition.{lines_of}
use Rattle.dsdl.specs.Form.{cast_form, type_form, line_form, lines_form, form_of}
use Rattle.dsdl_form.proofs.Decimals.{room}
use Rattle.dsdl_form.proofs.Literals.{base-digits}
use Rattle.dsdl_form.proofs.Sizes.{based, same_number}

-- ── sizes ──

decimal-length : (v n : ℕ) → v < 10 ^ n → length (decimal v) ≤ n + 1
unfolding decimal
decimal-length v n h = omega (arith, length_digits 10 (count_of v) v, count-le n v (omega (arith, pow-suc 10 n)))

grow : (v m n : ℕ) → v < 10 ^ (2 * m) → m ≤ n → v < 10 ^ (2 * n)
grow v m n h l = let p : 10 ^ (2 * m) ≤ 10 ^ (2 * n) = pow-le-pow_right (lit< tt) (omega arith) in omega arith

digits-shorter : (l : List ℕ) → length (digits_of l) ≤ length l
digits-shorter l = go (eqb (literal_base l) 10) where
  go : (b : Bool) → length (cond b l (drop 2 l)) ≤ length l
  go true = omega arith
  go false = omega (arith, length-drop 2 l)

unsigned_small : (l : List ℕ) → unsigned l < 10 ^ (2 * length l)
unsigned_small l = go (dec_le 1 (unsigned l)) where
  go : Dec (1 ≤ unsigned l) → unsigned l < 10 ^ (2 * length l)
  go (yes h) =
      let r = room (literal_base l) (digits_of l) (base-bound l) (base-digits l (based l h)) in
      let e = same_number l (digits_of l) (literal_base l) 0 refl refl h in
      grow (unsigned l) (length (digits_of l)) (length l) (omega arith) (digits-shorter l)
  go (no h) = omega (arith, lt_of_not-le h, one-le-pow (2 * length l) 10 (lit< tt))

count_small : (l : List ℕ) → count l < 10 ^ (2 * length l)
count_small l = go (eqb (first l) 43) where
  go : (b : Bool) → unsigned (cond b (drop 1 l) l) < 10 ^ (2 * length l)
  go true = grow (unsigned (drop 1 l)) (length (drop 1 l)) (length l) (unsigned_small (drop 1 l)) (omega (arith, length-drop 1 l))
  go false = unsigned_small l

items-small : (b : Bounds) (l : List ℕ) → items_by b l < 10 ^ (2 * length l)
items-small Exactly l = count_small l
items-small Below l =
    omega (arith, grow (count (drop 1 l)) (length (drop 1 l)) (length l) (count_small (drop 1 l)) (omega (arith, length-drop 1 l)))
items-small AtMost l = grow (count (drop 2 l)) (length (drop 2 l)) (length l) (count_small (drop 2 l)) (omega (arith, length-drop 2 l))

inside-shorter : (s : List ℕ) → length (inside s) ≤ length s
inside-shorter s = go (is_bracketed s) where
  go : (b : Bool) → length (cond b (take (length s - 2) (drop 1 s)) []) ≤ length s
  go true = omega (arith, length-take (length s - 2) (drop 1 s), length-drop 1 s)
  go false = omega arith

bracket-short : (b : Bounds) → length (bracket b) ≤ 3
bracket-short Exactly = omega arith
bracket-short Below = omega arith
bracket-short AtMost = omega arith

size-bound : (s : List ℕ) → length (size_form s) ≤ 2 * length s + 5
unfolding size_form items
size-bound s = go (eqb (length s) 0) where
  go : (b : Bool) → length (cond b [] (bracket (bounds_of (inside s)) ++ (decimal (items_by (bounds_of (inside s)) (inside s)) ++ chars "]"))) ≤ 2 * length s + 5
  go true = omega arith
  go false =
      let v = items_by (bounds_of (inside s)) (inside s) in
      let d = decimal-length v (2 * length s) (grow v (length (inside s)) (length s) (items-small (bounds_of (inside s)) (inside s)) (inside-shorter s)) in
      omega (
        arith,
        d,
        bracket-short (bounds_of (inside s)),
        length-append (bracket (bounds_of (inside s))) (decimal v ++ chars "]"),
        length-append (decimal v) (chars "]"),
      )

-- ── types ──

cast-length : (c : Cast) → length (cast_form c) ≡ 10
cast-length Unsaid = refl
cast-length Saturated = refl
cast-length Truncated = refl

full-length : (space l : List ℕ) → length (full_name space l) ≤ length space + length l
full-length space l = go (has_dot l) where
  go : (b : Bool) → length (cond b l (space ++ l)) ≤ length space + length l
  go true = omega arith
  go false = omega (arith, length-append space l)

type-bound : (space : List ℕ) (c : Cast) (w : List ℕ) → length (type_form space c w) ≤ length space + 15 + 2 * length w
type-bound space c w = go (is_nested (base_of (base_text w))) where
  parts : length (base_text w) + length (size_text w) ≡ length w
  parts = sym (length-append (base_text w) (size_text w)) ∙ ap length (take-append-drop (run Unbracketed w) w)

  go : (b : Bool) → length (cond b (full_name space (base_text w)) (cast_form c ++ base_text w) ++ size_form (size_text w)) ≤ length space + 15 + 2 * length w
  go true =
      omega (arith, parts, size-bound (size_text w), full-length space (base_text w), length-append (full_name space (base_text w)) (size_form (size_text w)))
  go false =
      omega (
        arith,
        parts,
        size-bound (size_text w),
        cast-length c,
        length-append (cast_form c) (base_text w),
        length-append (cast_form c ++ base_text w) (size_form (size_text w)),
      )

-- ── the words of a line are no longer than the line ──

abbrev Small : ℕ → Shape → Type 0
Small n nothing = Unit
Small n marker = Unit
Small n union = Unit
Small n (padding w) = length w ≤ n
Small n (field c w x) = (length w ≤ n) × (length x ≤ n)
Small n (constant w x i) = Unit
Small n wrong = Unit

word-short : (l : List ℕ) → length (word l) ≤ length l
word-short l = omega (arith, length-take (run Visible l) l)

skip-short : (l : List ℕ) → length (skip l) ≤ length l
skip-short l = omega (arith, length-drop (run Blank l) l)

past-short : (l : List ℕ) → length (past (skip l)) ≤ length l
past-short l = omega (arith, length-drop (run Visible (skip l)) (skip l), skip-short l)

first_short : (l : List ℕ) → length (word (skip l)) ≤ length l
first_short l = omega (arith, word-short (skip l), skip-short l)

attribute-small : (n : ℕ) (c : Cast) (w l : List ℕ) → length w ≤ n → length l ≤ n → Small n (attribute c w l)
attribute-small n c w l hw hl =
    go (is_name (word (skip l))) (ended (past (skip l))) (field_type c w) (constant_type w && same (word (skip (past (skip l)))) (chars "=")) where
      go : (a b t k : Bool) → Small n (cond a (cond b (cond t (field c w (word (skip l))) wrong) (cond k (constant w (word (skip l)) (past (skip (past (skip l))))) wrong)) wrong)
      go true true true k = (hw, omega (arith, first_short l))
      go true true false k = tt
      go true false t true = tt
      go true false t false = tt
      go false b t k = tt

shape-small : (l : List ℕ) → Small (length l) (shape_of l)
unfolding shape_of
shape-small l = outer (ended (bare l)) where
  bare-short : length (bare l) ≤ length l
  bare-short = omega (arith, length-take (run Bare l) l)

  hw : length (word (skip (bare l))) ≤ length l
  hw = omega (arith, first_short (bare l), bare-short)

  hr : length (past (skip (bare l))) ≤ length l
  hr = omega (arith, past-short (bare l), bare-short)

  cast : (c : Cast) → Small (length l) (cast_attribute c (past (skip (bare l))))
  cast c =
      attribute-small (length l) c (word (skip (past (skip (bare l))))) (past (skip (past (skip (bare l)))))
      (omega (arith, first_short (past (skip (bare l))), hr)) (omega (arith, past-short (past (skip (bare l))), hr))

  inner : (m u s t p : Bool)
      → Small (length l) (cond m marker (cond u union (cond s (cast_attribute Saturated (past (skip (bare l)))) (cond t (cast_attribute Truncated (past (skip (bare l))))
      (cond p (padding (word (skip (bare l)))) (attribute Unsaid (word (skip (bare l))) (past (skip (bare l)))))))))
  inner true u s t p = tt
  inner false true s t p = tt
  inner false false true t p = cast Saturated
  inner false false false true p = cast Truncated
  inner false false false false true = hw
  inner false false false false false = attribute-small (length l) Unsaid (word (skip (bare l))) (past (skip (bare l))) hw hr

  outer : (e : Bool) → Small (length l) (cond e nothing (shape_with (word (skip (bare l))) (past (skip (bare l)))))
  outer true = tt
  outer false =
      inner (same (word (skip (bare l))) (chars "---") && ended (past (skip (bare l)))) (same (word (skip (bare l))) (chars "@union") && ended (past (skip (bare l))))
      (same (word (skip (bare l))) (chars "saturated")) (same (word (skip (bare l))) (chars "truncated"))
      (is_void (base_of (word (skip (bare l)))) && ended (past (skip (bare l))))

-- ── a line ──

shape-bound : (space : List ℕ) (n : ℕ) (s : Shape) → Small n s → length (line_form space (judged s)) ≤ length space + 17 + 3 * n
unfolding line_form
shape-bound space n nothing h = omega arith
shape-bound space n marker h = omega arith
shape-bound space n union h = omega arith
shape-bound space n (padding w) h = omega arith
shape-bound space n (field c w x) h = omega (arith, type-bound space c w, length-append (type_form space c w) (32 ∷ x))
shape-bound space n (constant w x i) h = go (fits (base_of (base_text w)) (initializer (skip i))) where
  go : (b : Bool) → length (line_form space (cond b (aConstant x) aWrong)) ≤ length space + 17 + 3 * n
  go true = omega arith
  go false = omega arith
shape-bound space n wrong h = omega arith

line-bound : (space l : List ℕ) → length (line_form space (line_of l)) ≤ length space + 17 + 3 * length l
line-bound space l = shape-bound space (length l) (shape_of l) (shape-small l)

-- ── all lines ──

unfoldable weight : ℕ → List (List ℕ) → ℕ
weight k [] = 0
weight k (l ∷ ls) = k + 3 * length l + weight k ls

on-first : (k c : ℕ) (ls : List (List ℕ)) → weight k (on_first c ls) ≤ weight k ls + 3
unfolding weight
on-first k c [] = omega arith
on-first k c (l ∷ ls) = omega arith

weight-bound : (k : ℕ) (b : Bool) (t : List ℕ) → weight k (lines_after b t) ≤ k + (k + 3) * length t
unfolding weight lines_after
weight-bound k b [] = omega arith
weight-bound k b (c ∷ cs) = go (weight-bound k (eqb c 13) cs) (b && eqb c 10) (is_in Inline c) where
  more : (k + 3) * suc (length cs) ≡ (k + 3) * length cs + (k + 3)
  more = mul-suc (k + 3) (length cs)

  go : weight k (lines_after (eqb c 13) cs) ≤ k + (k + 3) * length cs → (x y : Bool)
      → weight k (cond x (lines_after (eqb c 13) cs) (cond y (on_first c (lines_after (eqb c 13) cs)) ([] ∷ lines_after (eqb c 13) cs))) ≤ k + (k + 3) * suc (length cs)
  go ih true y = omega (arith, more)
  go ih false true = omega (arith, more, on-first k c (lines_after (eqb c 13) cs))
  go ih false false = omega (arith, more)

lines-bound : (space : List ℕ) (ls : List (List ℕ)) → length (lines_form space (map line_of ls)) ≤ weight (length space + 17) ls
unfolding weight lines_form
lines-bound space [] = omega arith
lines-bound space (l ∷ ls) =
    omega (arith, lines-bound space ls, line-bound space l, length-append (line_form space (line_of l)) (lines_form space (map line_of ls)))

pub form-bound : (name text : List ℕ) → length name ≤ 80 → length text ≤ 4096 → length (form_of name text) ≤ 2 ^ 19
form-bound name text hn ht =
    let s = length (space_of name) in
    let d : s ≤ 80 = omega (arith, length-take (last_dot 0 0 name) name) in
    let m : (s + 17 + 3) * length text ≤ 100 * 4096 = mul-le-mul {n₂ = 100} (omega arith) ht in
    omega (
      arith,
      length-append name (lines_form (space_of name) (lines_of text)),
      lines-bound (space_of name) (lines text),
      weight-bound (s + 17) false text,
    )
