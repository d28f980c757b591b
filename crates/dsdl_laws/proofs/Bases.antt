-- The bases and sizes of types, as a form has them.
use mathlib.Core.Path.{◌≡◌, refl, sym, ap, subst, ◌∙◌}
use mathlib.Core.Bool.{Bool, true, false, not, cond, ◌&&◌, ◌||◌}
use mathlib.Core.List.{List, [], ◌∷◌, ◌++◌}
use mathlib.Core.Logic.{⊎_elim}
use Prim.Native.Nat.{ℕ, zero, suc, ◌+◌, ◌/◌, ◌%◌, ◌^◌}
use native.Mathlib.Nat.{mod-lt}
use native.Mathlib.Omega.{arith}
use lib.Dec.{leb, eqb, lit<}
use borrow.Author.Tests.{leb-true, le-leb}
use lib.ListN.{length, take, drop, take-append-drop}
use Rattle.digits.specs.Digits.{digits, count_of, decimal}
use Rattle.digits.proofs.Digits.{glyph-low}
use Rattle.dsdl_text.specs.declared.class.Class.{Class}
use Rattle.dsdl_text.specs.declared.class.Class.TheVariants.{Letter, Naming, Undotted, Unbracketed, Positive, Decimal}
use Rattle.dsdl_text.specs.Text.{chars, same, first}
use Rattle.dsdl_text.specs.Class.{is_in, run, all, within}
use Rattle.dsdl_text.specs.Names.{is_dotted, has_dot, name_max}
use Rattle.dsdl_number.specs.Integer.{value}
use Rattle.dsdl_type.specs.declared.base.Base.{Base}
use Rattle.dsdl_type.specs.declared.base.Base.TheVariants.{Boolean, Signed, Unsigned, Floating, Void, Nested, Unknown}
use Rattle.dsdl_type.specs.Base.{bits_of, primitive, nested, base_of, is_primitive, is_nested, is_void}
use Rattle.dsdl_type.proofs.Bases.{not-digits}
use Rattle.dsdl_type.specs.declared.size.Bounds.{Bounds}
use Rattle.dsdl_type.specs.declared.size.Bounds.TheVariants.{Exactly, Below, AtMost}
use Rattle.dsdl_type.specs.Size.{bounds_of, inside, items, bracket, size_form}
use Rattle.dsdl_laws.proofs.Characters.{no, and_left, and_right, decided, Each, each, each_all, each_append, Solid, solid-append, naming-undotted, same-equal}

-- ── sizes ──

-- numbers are written in digits
pub in-digits : (w n : ℕ) → Each Decimal (digits 10 w n)
unfolding digits is_in
in-digits zero n = tt
in-digits (suc w) n =
    let d = n / 10 ^ w % 10 in
    let h = mod-lt (n / 10 ^ w) (lit< tt) in
    (rw (glyph-low d h, le-leb 48 (48 + d) (omega arith), le-leb (48 + d) 57 (omega arith)), in-digits w n)

decimal-solid : (l : List ℕ) → Each Decimal l → Solid l
unfolding is_in
decimal-solid [] p = tt
decimal-solid (c ∷ cs) p = let h = leb-true 48 c (and_left (leb 48 c) (leb c 57) p.0) in (omega arith, decimal-solid cs p.1)

pub size-solid : (s : List ℕ) → Solid (size_form s)
unfolding size_form decimal
size-solid s = go (eqb (length s) 0) (bounds_of (inside s)) where
  number : Solid (decimal (items s) ++ chars "]")
  number = solid-append (decimal (items s)) (chars "]") (decimal-solid (decimal (items s)) (in-digits (count_of (items s)) (items s))) (omega arith, tt)

  go : (b : Bool) (k : Bounds) → Solid (cond b [] (bracket k ++ (decimal (items s) ++ chars "]")))
  go true k = tt
  go false Exactly = (omega arith, number)
  go false Below = (omega arith, (omega arith, (omega arith, number)))
  go false AtMost = (omega arith, (omega arith, (omega arith, number)))

-- a size begins with a bracket
pub size-begins : (s : List ℕ) → run Unbracketed (size_form s) ≡ 0
unfolding size_form run is_in
size-begins s = go (eqb (length s) 0) (bounds_of (inside s)) where
  go : (b : Bool) (k : Bounds) → run Unbracketed (cond b [] (bracket k ++ (decimal (items s) ++ chars "]"))) ≡ 0
  go true k = refl
  go false Exactly = refl
  go false Below = refl
  go false AtMost = refl

-- ── bases ──

run-each : (k : Class) (l : List ℕ) → Each k (take (run k l) l)
unfolding run
run-each k [] = tt
run-each k (c ∷ cs) = go (is_in k c) refl (run-each k cs) where
  go : (b : Bool) → is_in k c ≡ b → Each k (take (run k cs) cs) → Each k (take (cond b (suc (run k cs)) 0) (c ∷ cs))
  go true p ih = (p, ih)
  go false p ih = tt

widen : (k : Class) → ((c : ℕ) → is_in k c ≡ true → is_in Naming c ≡ true) → (l : List ℕ) → Each k l → Each Naming l
widen k f [] p = tt
widen k f (c ∷ cs) p = (f c p.0, widen k f cs p.1)

letter : (c : ℕ) → is_in Letter c ≡ true → is_in Naming c ≡ true
unfolding is_in
letter c e = rw e

digit : (c : ℕ) → is_in Decimal c ≡ true → is_in Naming c ≡ true
unfolding is_in
digit c e = rw e (last (within 65 90 c || within 97 122 c)) where
  last : (b : Bool) → (b || true) ≡ true
  last true = refl
  last false = refl

-- no primitive type has no bits
no_bits : (t : List ℕ) (o : Base) → primitive t 0 o ≡ o
no_bits t o =
    step (same t (chars "int")) (Signed 0) _ ∙ (step (same t (chars "uint")) (Unsigned 0) _
    ∙ (step (same t (chars "float")) (Floating 0) _ ∙ step (same t (chars "void")) (Void 0) o)) where
      step : (b : Bool) (x y : Base) → cond (b && false) x y ≡ y
      step true x y = refl
      step false x y = refl

module _ (l : List ℕ) where
  abbrev behind : List ℕ
  behind = drop (run Letter l) l

  -- how a base was read
  by_cases : {A : Type 0} (f : Base → Bool) → f (base_of l) ≡ true → (l ≡ chars "bool" → A)
      → (all Decimal behind ≡ true → f (primitive (take (run Letter l) l) (bits_of behind) (nested l)) ≡ true → A) → (f (nested l) ≡ true → A) → A
  unfolding base_of
  by_cases {A} f e boolean bits other = go (same l (chars "bool")) refl e where
    numbered : (b : Bool) → (is_in Positive (first behind) && (all Decimal behind && leb (length behind) 2)) ≡ b
        → f (primitive (take (run Letter l) l) (cond b (value 10 behind) 0) (nested l)) ≡ true
        → (all Decimal behind ≡ true → f (primitive (take (run Letter l) l) (cond b (value 10 behind) 0) (nested l)) ≡ true → A) → A
    numbered true p q k = k (and_left (all Decimal behind) (leb (length behind) 2) (and_right (is_in Positive (first behind)) _ p)) q
    numbered false p q k = other (ap f (sym (no_bits (take (run Letter l) l) (nested l))) ∙ q)

    go : (b : Bool) → same l (chars "bool") ≡ b → f (cond b Boolean (primitive (take (run Letter l) l) (bits_of behind) (nested l))) ≡ true → A
    go true p q = boolean (same-equal l (chars "bool") p)
    go false p q = numbered (is_in Positive (first behind) && (all Decimal behind && leb (length behind) 2)) refl q bits

-- a primitive or a void type
abbrev pub is_known : Base → Bool
is_known b = is_primitive b || is_void b

unknown : (b : Bool) → is_known (cond b Nested Unknown) ≡ false
unknown true = refl
unknown false = refl

-- letters and digits are a name
numbered-naming : (l : List ℕ) → all Decimal (behind l) ≡ true → Each Naming l
numbered-naming l d =
    subst (Each Naming) (take-append-drop (run Letter l) l)
    (each_append Naming (take (run Letter l) l) (behind l) (widen Letter letter (take (run Letter l) l) (run-each Letter l))
    (widen Decimal digit (behind l) (each Decimal (behind l) d)))

-- it is a name
pub known-naming : (l : List ℕ) → is_known (base_of l) ≡ true → Each Naming l
unfolding is_in
known-naming l e =
    by_cases l is_known e (λ p. subst (Each Naming) (sym p) (refl, (refl, (refl, (refl, tt)))))
    (λ d q. numbered-naming l d)
    (λ q. no (sym (unknown (is_dotted l && (not (has_dot l) || leb (length l) name_max))) ∙ q))

-- a nested type has a dotted name
pub nested-name : (l : List ℕ) → is_nested (base_of l) ≡ true → (is_dotted l && (not (has_dot l) || leb (length l) name_max)) ≡ true
unfolding base_of same
nested-name l e =
    by_cases l is_nested e (λ p. no (sym (ap (λ (m : List ℕ). is_nested (base_of m)) p) ∙ e))
    (λ d q. named _ (other (take (run Letter l) l) (bits_of (behind l)) (nested l) q)) (named _) where
      named : (b : Bool) → is_nested (cond b Nested Unknown) ≡ true → b ≡ true
      named true q = refl
      named false q = q

      choice : (b : Bool) (x o : Base) → is_nested x ≡ false → is_nested (cond b x o) ≡ true → is_nested o ≡ true
      choice true x o f q = no (sym f ∙ q)
      choice false x o f q = q

      other : (t : List ℕ) (n : ℕ) (o : Base) → is_nested (primitive t n o) ≡ true → is_nested o ≡ true
      other t n o q =
          choice (same t (chars "void") && within 1 64 n) (Void n) o refl
          (choice (same t (chars "float") && (eqb n 16 || (eqb n 32 || eqb n 64))) (Floating n) _ refl
          (choice (same t (chars "uint") && within 2 64 n) (Unsigned n) _ refl (choice (same t (chars "int") && within 2 64 n) (Signed n) _ refl q)))

-- a full name that is not too long is a nested type
pub full-nested : (l : List ℕ) → is_dotted l ≡ true → has_dot l ≡ true → leb (length l) name_max ≡ true → base_of l ≡ Nested
unfolding base_of same is_in run
full-nested l d h s = rw (not_bool, ← not-digits (behind l) not-numbered, no_bits (take (run Letter l) l) (nested l), d, h, s) where
  dotless : Each Naming l → has_dot l ≡ false
  dotless p = ap not (each_all Undotted l (naming-undotted l p))

  not-numbered : all Decimal (behind l) ≡ false
  not-numbered = ⊎_elim (λ e. no (sym (dotless (numbered-naming l e)) ∙ h)) (λ e. e) (decided (all Decimal (behind l)))

  not_bool : same l (chars "bool") ≡ false
  not_bool = ⊎_elim (λ e. no (ap has_dot (sym (same-equal l (chars "bool") e)) ∙ h)) (λ e. e) (decided (same l (chars "bool")))
