-- The digits of an integer literal are digits of its base.
use mathlib.Core.Path.{◌≡◌, refl}
use mathlib.Core.Bool.{Bool, true, false, cond, ◌&&◌, ◌||◌}
use mathlib.Core.List.{List, [], ◌∷◌}
use mathlib.Core.Logic.{◌⊎◌, inl, inr, ⊎_elim}
use Prim.Native.Nat.{ℕ, suc, ◌-◌, ◌≤◌, ◌<◌}
use native.Mathlib.Omega.{arith}
use borrow.Author.Tests.{eqb-true, leb-true, lt-ltb, le-ltb}
use lib.Dec.{leb, ltb, eqb}
use lib.ListN.{length, take, drop}
use Rattle.dsdl_text.specs.declared.class.Class.{Class}
use Rattle.dsdl_text.specs.declared.class.Class.TheVariants.{Positive, Decimal, Hexadecimal, Octal, Binary}
use Rattle.dsdl_text.specs.Class.{is_in, run, all, many, within}
use Rattle.dsdl_text.specs.Text.{chars, same, first}
use Rattle.dsdl_number.specs.Integer.{digit_of, is_decimal, is_prefixed, base_of, digits_of}
use Rattle.dsdl_number.specs.inside.Significand.{are_below}
use Rattle.dsdl_number.proofs.Significands.{differ, both}

either : (a b : Bool) → (a || b) ≡ true → (a ≡ true) ⊎ (b ≡ true)
either true b e = inl refl
either false b e = inr e

-- ── one digit ──

bounds : (a b c : ℕ) → within a b c ≡ true → (a ≤ c) × (c ≤ b)
bounds a b c e = let p = both (leb a c) (leb c b) e in (leb-true a c p.0, leb-true c b p.1)

below-ten : (m c : ℕ) → m ≤ 57 → within 48 m c ≡ true → digit_of c ≤ m - 48
below-ten m c h e = let p = bounds 48 m c e in rw (lt-ltb c 58 (omega arith)) (omega arith)

capital : (c : ℕ) → within 65 70 c ≡ true → digit_of c < 16
capital c e = let p = bounds 65 70 c e in rw (le-ltb c 58 (omega arith), lt-ltb c 71 (omega arith)) (omega arith)

small : (c : ℕ) → within 97 102 c ≡ true → digit_of c < 16
small c e = let p = bounds 97 102 c e in rw (le-ltb c 58 (omega arith), le-ltb c 71 (omega arith)) (omega arith)

decimal : (c : ℕ) → is_in Decimal c ≡ true → digit_of c < 10
unfolding is_in
decimal c e = omega (arith, below-ten 57 c (omega arith) e)

octal : (c : ℕ) → is_in Octal c ≡ true → digit_of c < 8
unfolding is_in
octal c e = omega (arith, below-ten 55 c (omega arith) e)

binary : (c : ℕ) → is_in Binary c ≡ true → digit_of c < 2
unfolding is_in
binary c e = omega (arith, below-ten 49 c (omega arith) e)

hexadecimal : (c : ℕ) → is_in Hexadecimal c ≡ true → digit_of c < 16
unfolding is_in
hexadecimal c e =
    ⊎_elim (λ d. omega (arith, below-ten 57 c (omega arith) d)) (λ r. ⊎_elim (capital c) (small c) (either (within 65 70 c) (within 97 102 c) r))
    (either (within 48 57 c) (within 65 70 c || within 97 102 c) e)

-- ── all of them ──

all-below : (k : Class) (b : ℕ) → ((c : ℕ) → is_in k c ≡ true → digit_of c < b) → (l : List ℕ) → run k l ≡ length l → are_below b l ≡ true
unfolding run are_below
all-below k b f [] h = refl
all-below k b f (x ∷ xs) h = go (is_in k x) refl h (all-below k b f xs) where
  go : (t : Bool) → is_in k x ≡ t → cond t (suc (run k xs)) 0 ≡ suc (length xs) → (run k xs ≡ length xs → are_below b xs ≡ true)
      → (ltb (digit_of x) b && are_below b xs) ≡ true
  go true p q ih = rw (lt-ltb (digit_of x) b (f x p)) (ih (omega arith))
  go false p q ih = absurd (omega arith)

zero-below : (l : List ℕ) → same l (48 ∷ []) ≡ true → are_below 10 l ≡ true
unfolding same are_below
zero-below [] e = refl
zero-below (x ∷ []) e = let q = eqb-true x 48 (both (eqb x 48) true e).0 in rw q
zero-below (x ∷ (y ∷ ys)) e = absurd (differ (both (eqb x 48) false e).1)

decimal-below : (l : List ℕ) → is_decimal l ≡ true → are_below 10 l ≡ true
decimal-below l e =
    ⊎_elim (zero-below l) (λ r. all-below Decimal 10 decimal l (eqb-true _ _ (both (is_in Positive (first l)) (all Decimal l) r).1))
    (either (same l (chars "0")) (is_in Positive (first l) && all Decimal l) e)

prefixed-below : (p : List ℕ) (k : Class) (b : ℕ) → ((c : ℕ) → is_in k c ≡ true → digit_of c < b) → (l : List ℕ) → is_prefixed p k l ≡ true
    → are_below b (drop 2 l) ≡ true
prefixed-below p k b f l e =
    let m = (both (same (take 2 l) p) (many k (drop 2 l)) e).1 in
    all-below k b f (drop 2 l) (eqb-true _ _ (both (ltb 0 (length (drop 2 l))) (all k (drop 2 l)) m).1)

pub base-digits : (l : List ℕ) → 0 < base_of l → are_below (base_of l) (digits_of l) ≡ true
unfolding base_of
base-digits l h =
    go (is_decimal l) (is_prefixed (chars "0x") Hexadecimal l) (is_prefixed (chars "0b") Binary l) (is_prefixed (chars "0o") Octal l)
    refl refl refl refl h where
      go : (a b c d : Bool) → is_decimal l ≡ a → is_prefixed (chars "0x") Hexadecimal l ≡ b → is_prefixed (chars "0b") Binary l ≡ c
          → is_prefixed (chars "0o") Octal l ≡ d → 0 < cond a 10 (cond b 16 (cond c 2 (cond d 8 0)))
          → are_below (cond a 10 (cond b 16 (cond c 2 (cond d 8 0)))) (cond (eqb (cond a 10 (cond b 16 (cond c 2 (cond d 8 0)))) 10) l (drop 2 l)) ≡ true
      go true b c d ea eb ec ed p = decimal-below l ea
      go false true c d ea eb ec ed p = prefixed-below (chars "0x") Hexadecimal 16 hexadecimal l eb
      go false false true d ea eb ec ed p = prefixed-below (chars "0b") Binary 2 binary l ec
      go false false false true ea eb ec ed p = prefixed-below (chars "0o") Octal 8 octal l ed
      go false false false false ea eb ec ed p = absurd (omega arith)
