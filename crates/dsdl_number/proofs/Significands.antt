-- Laws of the digits of a literal without its point.
use mathlib.Core.Path.{◌≡◌, refl, sym, ap, ◌∙◌}
use mathlib.Core.Bool.{Bool, true, false, ◌&&◌}
use mathlib.Core.List.{List, [], ◌∷◌, ◌++◌}
use Prim.Native.Nat.{ℕ, zero, suc, ◌+◌, ◌*◌, ◌≤◌, ◌<◌}
use native.Mathlib.Omega.{arith}
use borrow.Author.Tests.{ltb-true, lt-ltb, eqb-true, eq-eqb, ne_eqb}
use lib.Dec.{ltb, eqb}
use lib.ListN.{length, get_or, take, drop}
use Rattle.dsdl_number.proofs.Bounded.{turn}
use Rattle.dsdl_number.proofs.Capped.{done}
use Rattle.dsdl_number.specs.Integer.{digit_of, value_from}
use Rattle.dsdl_number.specs.inside.Significand.{significand, padded, are_zero, are_below}

-- ── one digit ──

-- an element that is there does not depend on the default
there : (s : List ℕ) (k d e : ℕ) → k < length s → get_or s k d ≡ get_or s k e
there [] k d e h = absurd (omega arith)
there (x ∷ xs) zero d e h = refl
there (x ∷ xs) (suc k) d e h = there xs k d e (omega arith)

pub none : (k : ℕ) → get_or {A = ℕ} [] k 48 ≡ 48
none zero = refl
none (suc k) = refl

pub absent : (s : List ℕ) (k : ℕ) → length s ≤ k → get_or s k 48 ≡ 48
absent [] k h = none k
absent (x ∷ xs) zero h = absurd (omega arith)
absent (x ∷ xs) (suc k) h = absent xs k (omega arith)

pub before-point : (s t : List ℕ) (point k : ℕ) → k < point → point ≤ length s → get_or s k 0 ≡ get_or (take point s ++ t) k 48
before-point s t zero k h l = absurd (omega arith)
before-point [] t (suc point) k h l = absurd (omega arith)
before-point (x ∷ xs) t (suc point) zero h l = refl
before-point (x ∷ xs) t (suc point) (suc k) h l = before-point xs t point k (omega arith) (omega arith)

pub behind-point : (s : List ℕ) (point k : ℕ) → point ≤ k → suc k < length s → get_or s (suc k) 0 ≡ get_or (significand point s) k 48
behind-point [] point k h l = absurd (omega arith)
behind-point (x ∷ xs) zero k h l = there xs k 0 48 (omega arith)
behind-point (x ∷ xs) (suc point) zero h l = absurd (omega arith)
behind-point (x ∷ xs) (suc point) (suc k) h l = behind-point xs point k (omega arith) (omega arith)

pub behind-all : (s : List ℕ) (point k : ℕ) → point ≤ k → point ≤ length s → length s ≤ k + 1 → 48 ≡ get_or (significand point s) k 48
behind-all [] zero k h p l = sym (none k)
behind-all [] (suc point) k h p l = absurd (omega arith)
behind-all (x ∷ xs) zero k h p l = sym (absent xs k (omega arith))
behind-all (x ∷ xs) (suc point) zero h p l = absurd (omega arith)
behind-all (x ∷ xs) (suc point) (suc k) h p l = behind-all xs point k (omega arith) (omega arith) (omega arith)

-- ── the first n of them ──

pub padded-length : (n : ℕ) (l : List ℕ) → length (padded n l) ≡ n
unfolding padded
padded-length zero l = refl
padded-length (suc n) [] = ap suc (padded-length n [])
padded-length (suc n) (x ∷ xs) = ap suc (padded-length n xs)

pub padded-at : (n : ℕ) (l : List ℕ) (k d : ℕ) → k < n → get_or (padded n l) k d ≡ get_or l k 48
unfolding padded
padded-at zero l k d h = absurd (omega arith)
padded-at (suc n) [] zero d h = refl
padded-at (suc n) (x ∷ xs) zero d h = refl
padded-at (suc n) [] (suc k) d h = padded-at n [] k d (omega arith) ∙ none k
padded-at (suc n) (x ∷ xs) (suc k) d h = padded-at n xs k d (omega arith)

-- one digit more
pub next-digit : (b v d n k : ℕ) (l : List ℕ) → k < n → d ≡ digit_of (get_or l k 48)
    → value_from b v (drop k (padded n l)) ≡ value_from b (v * b + d) (drop (suc k) (padded n l))
next-digit b v d n k l h e =
    turn b v d (padded n l) k (omega (arith, padded-length n l)) (e ∙ ap digit_of (sym (padded-at n l k 0 h)))

pub no_digit : (b v n k : ℕ) (l : List ℕ) → k ≡ n → value_from b v (drop k (padded n l)) ≡ v
no_digit b v n k l h = done b v (padded n l) k (h ∙ sym (padded-length n l))

-- ── zeros ──

pub zero-on : (l : List ℕ) (k : ℕ) → digit_of (get_or l k 48) ≡ 0 → are_zero (drop k l) ≡ are_zero (drop (suc k) l)
unfolding are_zero
zero-on [] zero e = refl
zero-on [] (suc k) e = refl
zero-on (x ∷ xs) zero e = rw e
zero-on (x ∷ xs) (suc k) e = zero-on xs k e

pub zero-stop : (l : List ℕ) (k : ℕ) → (digit_of (get_or l k 48) ≡ 0 → ⊥) → are_zero (drop k l) ≡ false
unfolding are_zero
zero-stop [] k e = absurd (e (ap digit_of (none k)))
zero-stop (x ∷ xs) zero e = rw (ne_eqb (digit_of x) 0 e)
zero-stop (x ∷ xs) (suc k) e = zero-stop xs k e

pub zero-end : (l : List ℕ) (k : ℕ) → length l ≤ k → are_zero (drop k l) ≡ true
unfolding are_zero
zero-end [] zero h = refl
zero-end [] (suc k) h = refl
zero-end (x ∷ xs) zero h = absurd (omega arith)
zero-end (x ∷ xs) (suc k) h = zero-end xs k (omega arith)

pub differ : false ≡ true → ⊥
differ e = let z : ◌≡◌ {A = ℕ} 0 1 = cc in absurd (omega arith)

pub both : (a b : Bool) → (a && b) ≡ true → (a ≡ true) × (b ≡ true)
both true b e = (refl, e)
both false b e = absurd (differ e)

pub zero-at : (l : List ℕ) (n k : ℕ) → n ≤ k → are_zero (drop n l) ≡ true → digit_of (get_or l k 48) ≡ 0
unfolding are_zero
zero-at [] n k h e = ap digit_of (none k)
zero-at (x ∷ xs) (suc n) zero h e = absurd (omega arith)
zero-at (x ∷ xs) (suc n) (suc k) h e = zero-at xs n k (omega arith) e
zero-at (x ∷ xs) zero zero h e = eqb-true (digit_of x) 0 (both (eqb (digit_of x) 0) (are_zero xs) e).0
zero-at (x ∷ xs) zero (suc k) h e = zero-at xs zero k (omega arith) (both (eqb (digit_of x) 0) (are_zero xs) e).1

pub at_zero : (l : List ℕ) (n : ℕ) → ((k : ℕ) → n ≤ k → k < length l → digit_of (get_or l k 48) ≡ 0) → are_zero (drop n l) ≡ true
unfolding are_zero
at_zero [] zero z = refl
at_zero [] (suc n) z = refl
at_zero (x ∷ xs) (suc n) z = at_zero xs n (λ k a h. z (suc k) (omega arith) (omega arith))
at_zero (x ∷ xs) zero z =
    rw (eq-eqb (digit_of x) 0 (z zero (omega arith) (omega arith))) (at_zero xs zero (λ k a h. z (suc k) (omega arith) (omega arith)))

-- ── digits of a base ──

pub below_at : (b : ℕ) (l : List ℕ) (k : ℕ) → 0 < b → are_below b l ≡ true → digit_of (get_or l k 48) < b
unfolding are_below
below_at b [] k h a = omega (arith, ap digit_of (none k))
below_at b (x ∷ xs) zero h a = ltb-true (digit_of x) b (both (ltb (digit_of x) b) (are_below b xs) a).0
below_at b (x ∷ xs) (suc k) h a = below_at b xs k h (both (ltb (digit_of x) b) (are_below b xs) a).1

pub below-padded : (b n : ℕ) (l : List ℕ) → 0 < b → are_below b l ≡ true → are_below b (padded n l) ≡ true
unfolding are_below padded
below-padded b zero l h a = refl
below-padded b (suc n) [] h a = rw (lt-ltb 0 b h) (below-padded b n [] h a)
below-padded b (suc n) (x ∷ xs) h a =
    let p = both (ltb (digit_of x) b) (are_below b xs) a in
    rw p.0 (below-padded b n xs h p.1)
