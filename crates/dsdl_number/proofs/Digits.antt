-- The digits of literals are digits of their base.
use mathlib.Core.Path.{◌≡◌, refl, sym, ap, ◌∙◌}
use mathlib.Core.Bool.{Bool, true, false, cond, ◌&&◌, ◌||◌}
use mathlib.Core.List.{List, [], ◌∷◌, ◌++◌}
use Prim.Native.Nat.{ℕ, suc, ◌+◌, ◌≤◌, ◌<◌}
use native.Mathlib.Omega.{arith}
use borrow.Author.Tests.{leb-true, eqb-true, lt-ltb, le-ltb}
use lib.Dec.{leb, ltb, eqb}
use lib.ListN.{length, take, drop}
use lib.Seq.{take-length}
use Rattle.dsdl_text.specs.declared.class.Class.{Class}
use Rattle.dsdl_text.specs.declared.class.Class.TheVariants.{Positive, Decimal, Hexadecimal, Octal, Binary}
use Rattle.dsdl_text.specs.Class.{within, is_in, run, all, many}
use Rattle.dsdl_text.specs.Text.{chars, same, first}
use Rattle.dsdl_number.proofs.Significands.{differ, both}
use Rattle.dsdl_number.specs.Integer.{digit_of, is_decimal, is_prefixed, base_of, digits_of}
use Rattle.dsdl_number.specs.inside.Significand.{are_below}

-- ── one digit ──

inside : (a b c : ℕ) → within a b c ≡ true → (a ≤ c) × (c ≤ b)
inside a b c e = let p = both (leb a c) (leb c b) e in (leb-true a c p.0, leb-true c b p.1)

numeral : (b c last : ℕ) → last < 48 + b → last < 58 → within 48 last c ≡ true → digit_of c < b
numeral b c last h k e = let p = inside 48 last c e in rw (lt-ltb c 58 (omega arith)) (omega arith)

abbrev Digits : Class → ℕ → Type 0
Digits k b = (c : ℕ) → is_in k c ≡ true → digit_of c < b

pub decimal : Digits Decimal 10
unfolding is_in
decimal c e = numeral 10 c 57 (omega arith) (omega arith) e

octal : Digits Octal 8
unfolding is_in
octal c e = numeral 8 c 55 (omega arith) (omega arith) e

binary : Digits Binary 2
unfolding is_in
binary c e = numeral 2 c 49 (omega arith) (omega arith) e

hexadecimal : Digits Hexadecimal 16
unfolding is_in
hexadecimal c e = go (within 48 57 c) (within 65 70 c) (within 97 102 c) refl refl refl e where
  go : (x y z : Bool) → within 48 57 c ≡ x → within 65 70 c ≡ y → within 97 102 c ≡ z → (x || (y || z)) ≡ true → digit_of c < 16
  go true y z p q r t = numeral 16 c 57 (omega arith) (omega arith) p
  go false true z p q r t = let i = inside 65 70 c q in rw (le-ltb c 58 (omega arith), lt-ltb c 71 (omega arith)) (omega arith)
  go false false true p q r t = let i = inside 97 102 c r in rw (le-ltb c 58 (omega arith), le-ltb c 71 (omega arith)) (omega arith)
  go false false false p q r t = absurd (differ t)

-- ── many ──

pub run-below : (k : Class) (b : ℕ) → Digits k b → (l : List ℕ) → are_below b (take (run k l) l) ≡ true
unfolding run are_below
run-below k b h [] = refl
run-below k b h (c ∷ cs) = go (is_in k c) refl (run-below k b h cs) where
  go : (t : Bool) → is_in k c ≡ t → are_below b (take (run k cs) cs) ≡ true → are_below b (take (cond t (suc (run k cs)) 0) (c ∷ cs)) ≡ true
  go true e r = rw (lt-ltb (digit_of c) b (h c e)) r
  go false e r = refl

all-below : (k : Class) (b : ℕ) → Digits k b → (l : List ℕ) → all k l ≡ true → are_below b l ≡ true
all-below k b h l e =
    let r : take (run k l) l ≡ l = ap (λ (n : ℕ). take n l) (eqb-true (run k l) (length l) e) ∙ take-length l in
    ap (are_below b) (sym r) ∙ run-below k b h l

pub joined-below : (b : ℕ) (s t : List ℕ) → are_below b s ≡ true → are_below b t ≡ true → are_below b (s ++ t) ≡ true
unfolding are_below
joined-below b [] t p q = q
joined-below b (x ∷ xs) t p q =
    let h = both (ltb (digit_of x) b) (are_below b xs) p in
    rw h.0 (joined-below b xs t h.1 q)

-- ── an integer literal ──

zero-below : (l : List ℕ) → same l (chars "0") ≡ true → are_below 10 l ≡ true
unfolding same are_below
zero-below [] e = absurd (differ e)
zero-below (x ∷ []) e = let z : x ≡ 48 = eqb-true x 48 (both (eqb x 48) true e).0 in rw z
zero-below (x ∷ (y ∷ ys)) e = absurd (differ (both (eqb x 48) false e).1)

decimal-below : (l : List ℕ) → is_decimal l ≡ true → are_below 10 l ≡ true
decimal-below l e = go (same l (chars "0")) refl e where
  go : (t : Bool) → same l (chars "0") ≡ t → (t || (is_in Positive (first l) && all Decimal l)) ≡ true → are_below 10 l ≡ true
  go true p q = zero-below l p
  go false p q = all-below Decimal 10 decimal l (both (is_in Positive (first l)) (all Decimal l) q).1

prefixed-below : (p : List ℕ) (k : Class) (b : ℕ) → Digits k b → (l : List ℕ) → is_prefixed p k l ≡ true → are_below b (drop 2 l) ≡ true
prefixed-below p k b h l e =
    let m = (both (same (take 2 l) p) (many k (drop 2 l)) e).1 in
    all-below k b h (drop 2 l) (both (ltb 0 (length (drop 2 l))) (all k (drop 2 l)) m).1

-- by the four tests
abbrev pub base_by : Bool → Bool → Bool → Bool → ℕ
base_by x y z w = cond x 10 (cond y 16 (cond z 2 (cond w 8 0)))

pub literal-below : (l : List ℕ) → (base_of l ≡ 0 → ⊥) → are_below (base_of l) (digits_of l) ≡ true
unfolding base_of
literal-below l n =
    go (is_decimal l) (is_prefixed (chars "0x") Hexadecimal l) (is_prefixed (chars "0b") Binary l) (is_prefixed (chars "0o") Octal l) refl refl refl refl n where
      go : (x y z w : Bool) → is_decimal l ≡ x → is_prefixed (chars "0x") Hexadecimal l ≡ y → is_prefixed (chars "0b") Binary l ≡ z
          → is_prefixed (chars "0o") Octal l ≡ w → (base_by x y z w ≡ 0 → ⊥) → are_below (base_by x y z w) (cond (eqb (base_by x y z w) 10) l (drop 2 l)) ≡ true
      go true y z w p q r s n = decimal-below l p
      go false true z w p q r s n = prefixed-below (chars "0x") Hexadecimal 16 hexadecimal l q
      go false false true w p q r s n = prefixed-below (chars "0b") Binary 2 binary l r
      go false false false true p q r s n = prefixed-below (chars "0o") Octal 8 octal l s
      go false false false false p q r s n = absurd (n refl)
