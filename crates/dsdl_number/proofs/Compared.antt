-- Numbers of digits, compared digit by digit.
use mathlib.Core.Path.{◌≡◌, refl, sym, ap, ◌∙◌}
use mathlib.Core.Bool.{Bool, true, false, cond, ◌&&◌}
use mathlib.Core.List.{List, [], ◌∷◌}
use Prim.Native.Nat.{ℕ, zero, suc, ◌+◌, ◌*◌, ◌-◌, ◌≤◌, ◌<◌}
use native.Mathlib.Omega.{arith}
use native.Mathlib.Nat.{mul-le-mul_right, suc-mul, zero-mul, lt_of_not-le}
use native.Mathlib.Decide.{dec_le}
use borrow.Author.Tests.{ltb-true, lt-ltb, le-ltb, eqb-true, eqb-false}
use lib.Dec.{ltb, eqb}
use lib.ListN.{length, get_or, take, drop, length-drop}
use lib.Seq.{drop-cons, drop-length}
use Rattle.dsdl_number.proofs.Bounded.{grown}
use Rattle.dsdl_number.proofs.Significands.{differ, both, padded-length}
use Rattle.dsdl_number.specs.Integer.{digit_of, value_from, value}
use Rattle.dsdl_number.specs.inside.Significand.{padded, are_zero, are_below, is_less, is_below}

-- what is less stays less with digits behind it
times-less : (b x y d c : ℕ) → d < b → x < y → x * b + d < y * b + c
times-less b x y d c h l = omega (arith, mul-le-mul_right b l, suc-mul x b)

ordered : (b : ℕ) → 1 ≤ b → (s t : List ℕ) (x y : ℕ) → length s ≤ length t → are_below b s ≡ true → x < y → value_from b x s < value_from b y t
unfolding value_from are_below
ordered b hb [] t x y h a l = omega (arith, grown b t y hb)
ordered b hb (d ∷ ds) [] x y h a l = absurd (omega arith)
ordered b hb (d ∷ ds) (c ∷ cs) x y h a l =
    let p = both (ltb (digit_of d) b) (are_below b ds) a in
    ordered b hb ds cs (x * b + digit_of d) (y * b + digit_of c) (omega arith) p.1
    (times-less b x y (digit_of d) (digit_of c) (ltb-true (digit_of d) b p.0) l)

-- the first digits decide, if they differ
decided : (b v c d : ℕ) (cs ds : List ℕ) → Dec (d ≤ c) → Dec (c ≤ d)
    → (v * b + c < v * b + d → value_from b (v * b + c) cs < value_from b (v * b + d) ds)
    → (v * b + d < v * b + c → value_from b (v * b + d) ds < value_from b (v * b + c) cs)
    → ltb (value_from b (v * b + c) cs) (value_from b (v * b + c) ds) ≡ is_less cs ds
    → ltb (value_from b (v * b + c) cs) (value_from b (v * b + d) ds) ≡ cond (ltb c d) true (cond (ltb d c) false (is_less cs ds))
decided b v c d cs ds (no p) q f g e =
    rw (lt-ltb c d (lt_of_not-le p)) (lt-ltb (value_from b (v * b + c) cs) (value_from b (v * b + d) ds) (f (omega (arith, lt_of_not-le p))))
decided b v c d cs ds (yes p) (no q) f g e =
    let l = g (omega (arith, lt_of_not-le q)) in
    rw (le-ltb c d p, lt-ltb d c (lt_of_not-le q)) (le-ltb (value_from b (v * b + c) cs) (value_from b (v * b + d) ds) (omega arith))
decided b v c d cs ds (yes p) (yes q) f g e =
    let i : c ≡ d = omega arith in
    rw (le-ltb c d p, le-ltb d c q) (ap (λ (x : ℕ). ltb (value_from b (v * b + c) cs) (value_from b (v * b + x) ds)) (sym i) ∙ e)

-- as many digits behind the same number
alike : (b : ℕ) → 1 ≤ b → (s t : List ℕ) (v : ℕ) → length s ≡ length t → are_below b s ≡ true → are_below b t ≡ true
    → ltb (value_from b v s) (value_from b v t) ≡ is_less s t
unfolding value_from are_below is_less
alike b hb [] [] v h p q = le-ltb v v (omega arith)
alike b hb [] (d ∷ ds) v h p q = absurd (omega arith)
alike b hb (c ∷ cs) [] v h p q = absurd (omega arith)
alike b hb (c ∷ cs) (d ∷ ds) v h p q =
    let p' = (both (ltb (digit_of c) b) (are_below b cs) p).1 in
    let q' = (both (ltb (digit_of d) b) (are_below b ds) q).1 in
    decided b v (digit_of c) (digit_of d) cs ds (dec_le (digit_of d) (digit_of c)) (dec_le (digit_of c) (digit_of d))
    (λ l. ordered b hb cs ds (v * b + digit_of c) (v * b + digit_of d) (omega arith) p' l)
    (λ l. ordered b hb ds cs (v * b + digit_of d) (v * b + digit_of c) (omega arith) q' l)
    (alike b hb cs ds (v * b + digit_of c) (omega arith) p' q')

-- ── digits in front ──

split : (b k : ℕ) (s : List ℕ) (v : ℕ) → value_from b v s ≡ value_from b (value_from b v (take k s)) (drop k s)
unfolding value_from
split b zero s v = refl
split b (suc k) [] v = refl
split b (suc k) (x ∷ xs) v = split b k xs (v * b + digit_of x)

zeros : (b : ℕ) (s : List ℕ) (v : ℕ) → v ≡ 0 → are_zero s ≡ true → value_from b v s ≡ 0
unfolding value_from are_zero
zeros b [] v e z = e
zeros b (x ∷ xs) v e z =
    let p = both (eqb (digit_of x) 0) (are_zero xs) z in
    let m : v * b ≡ 0 = ap (λ (n : ℕ). n * b) e ∙ zero-mul b in
    zeros b xs (v * b + digit_of x) (omega (arith, eqb-true (digit_of x) 0 p.0)) p.1

nonzero : (n : ℕ) → (n ≡ 0 → ⊥) → 0 < n
nonzero n h = omega arith

some : (b : ℕ) → 1 ≤ b → (s : List ℕ) (v : ℕ) → are_zero s ≡ false → 0 < value_from b v s
unfolding value_from are_zero
some b hb [] v z = absurd (differ (sym z))
some b hb (x ∷ xs) v z = go (eqb (digit_of x) 0) refl z (some b hb xs (v * b + digit_of x)) where
  go : (t : Bool) → t ≡ eqb (digit_of x) 0 → (eqb (digit_of x) 0 && are_zero xs) ≡ false → (are_zero xs ≡ false → 0 < value_from b (v * b + digit_of x) xs)
      → 0 < value_from b (v * b + digit_of x) xs
  go true e q r = r (ap (λ (t : Bool). t && are_zero xs) e ∙ q)
  go false e q r = let n = eqb-false (digit_of x) 0 (sym e) in omega (arith, grown b xs (v * b + digit_of x) hb, nonzero (digit_of x) n)

below-drop : (b k : ℕ) (s : List ℕ) → are_below b s ≡ true → are_below b (drop k s) ≡ true
unfolding are_below
below-drop b zero s a = a
below-drop b (suc k) [] a = refl
below-drop b (suc k) (x ∷ xs) a = below-drop b k xs (both (ltb (digit_of x) b) (are_below b xs) a).1

-- ── the whole comparison ──

shorter : (b : ℕ) → 1 ≤ b → (s t : List ℕ) → are_below b s ≡ true → 0 < digit_of (get_or t 0 48) → length s < length t → value b s < value b t
unfolding value_from
shorter b hb s [] a f h = absurd (omega arith)
shorter b hb s (c ∷ cs) a f h = ordered b hb s cs 0 (0 * b + digit_of c) (omega arith) a (omega arith)

module _ (b : ℕ) (hb : 1 ≤ b) (s t : List ℕ) (p : are_below b s ≡ true) (q : are_below b t ≡ true) where
  abbrev more : ℕ
  more = length s - length t

  behind : length t ≤ length s → (z : Bool) → z ≡ are_zero (take more s) → ltb (value b s) (value b t) ≡ (z && is_less (drop more s) t)
  behind h true e =
      let v : value b s ≡ value b (drop more s)
      = split b more s 0 ∙ ap (λ (x : ℕ). value_from b x (drop more s)) (zeros b (take more s) 0 refl (sym e)) in
      ap (λ (x : ℕ). ltb x (value b t)) v ∙ alike b hb (drop more s) t 0 (omega (arith, length-drop more s)) (below-drop b more s p) q
  behind h false e =
      let l = ordered b hb t (drop more s) 0 (value b (take more s)) (omega (arith, length-drop more s)) q (some b hb (take more s) 0 (sym e)) in
      le-ltb (value b s) (value b t) (omega (arith, split b more s 0))

  pub below : 0 < digit_of (get_or t 0 48) → ltb (value b s) (value b t) ≡ is_below s t
  unfolding is_below
  below f = go (dec_le (length t) (length s)) where
    go : Dec (length t ≤ length s) → ltb (value b s) (value b t) ≡ cond (ltb (length s) (length t)) true (are_zero (take more s) && is_less (drop more s) t)
    go (no h) = rw (lt-ltb (length s) (length t) (lt_of_not-le h)) (lt-ltb (value b s) (value b t) (shorter b hb s t p f (lt_of_not-le h)))
    go (yes h) = rw (le-ltb (length s) (length t) h) (behind h (are_zero (take more s)) refl)

-- ── digit by digit ──

module _ (s t : List ℕ) (j i d e : ℕ) (hj : j < length s) (hi : i < length t) (ed : d ≡ digit_of (get_or s j 0)) (ee : e ≡ digit_of (get_or t i 0)) where
  by_digits : is_less (drop j s) (drop i t) ≡ cond (ltb d e) true (cond (ltb e d) false (is_less (drop (suc j) s) (drop (suc i) t)))
  unfolding is_less
  by_digits = rw (drop-cons s j 0, drop-cons t i 0, ed, ee)

  pub less-here : d < e → true ≡ is_less (drop j s) (drop i t)
  less-here l = sym (by_digits ∙ ap (λ (b : Bool). cond b true (cond (ltb e d) false (is_less (drop (suc j) s) (drop (suc i) t)))) (lt-ltb d e l))

  module _ (n : e ≤ d) where
    not-less : is_less (drop j s) (drop i t) ≡ cond (ltb e d) false (is_less (drop (suc j) s) (drop (suc i) t))
    not-less = by_digits ∙ ap (λ (b : Bool). cond b true (cond (ltb e d) false (is_less (drop (suc j) s) (drop (suc i) t)))) (le-ltb d e n)

    pub more-here : e < d → false ≡ is_less (drop j s) (drop i t)
    more-here l = sym (not-less ∙ ap (λ (b : Bool). cond b false (is_less (drop (suc j) s) (drop (suc i) t))) (lt-ltb e d l))

    pub same_here : d ≤ e → is_less (drop j s) (drop i t) ≡ is_less (drop (suc j) s) (drop (suc i) t)
    same_here l = not-less ∙ ap (λ (b : Bool). cond b false (is_less (drop (suc j) s) (drop (suc i) t))) (le-ltb e d l)

none-less : (s : List ℕ) → is_less s [] ≡ false
unfolding is_less
none-less [] = refl
none-less (x ∷ xs) = refl

pub less-end : (s t : List ℕ) (i : ℕ) → i ≡ length t → is_less s (drop i t) ≡ false
less-end s t i e = ap (λ (k : ℕ). is_less s (drop k t)) e ∙ (ap (is_less s) (drop-length t) ∙ none-less s)

-- ── the first digits ──

take-padded : (h n : ℕ) (l : List ℕ) → h ≤ n → take h (padded n l) ≡ padded h l
unfolding padded
take-padded zero n l h = refl
take-padded (suc k) zero l h = absurd (omega arith)
take-padded (suc k) (suc n) [] h = ap (λ (t : List ℕ). 48 ∷ t) (take-padded k n [] (omega arith))
take-padded (suc k) (suc n) (x ∷ xs) h = ap (λ (t : List ℕ). x ∷ t) (take-padded k n xs (omega arith))

module _ (l t : List ℕ) (n : ℕ) where
  abbrev below_by : ℕ → List ℕ → Bool
  below_by k z = cond (ltb k (length t)) true (are_zero z && is_less (drop (k - length t) (padded n l)) t)

  by_length : is_below (padded n l) t ≡ below_by n (take (n - length t) (padded n l))
  unfolding is_below
  by_length = ap (λ (k : ℕ). below_by k (take (k - length t) (padded n l))) (padded-length n l)

  pub fewer : n < length t → true ≡ is_below (padded n l) t
  fewer h = sym (by_length ∙ ap (λ (b : Bool). cond b true (are_zero (take (n - length t) (padded n l)) && is_less (drop (n - length t) (padded n l)) t)) (lt-ltb n (length t) h))

  module _ (h : length t ≤ n) where
    by-zeros : is_below (padded n l) t ≡ (are_zero (padded (n - length t) l) && is_less (drop (n - length t) (padded n l)) t)
    by-zeros =
        by_length
        ∙ (ap (below_by n) (take-padded (n - length t) n l (omega arith))
        ∙ ap (λ (b : Bool). cond b true (are_zero (padded (n - length t) l) && is_less (drop (n - length t) (padded n l)) t)) (le-ltb n (length t) h))

    pub not_zeros : are_zero (padded (n - length t) l) ≡ false → false ≡ is_below (padded n l) t
    not_zeros e = sym (by-zeros ∙ ap (λ (b : Bool). b && is_less (drop (n - length t) (padded n l)) t) e)

    pub behind-zeros : (r : Bool) → are_zero (padded (n - length t) l) ≡ true → r ≡ is_less (drop (n - length t) (padded (n - length t + length t) l)) t
        → r ≡ is_below (padded n l) t
    behind-zeros r e q =
        let k : n - length t + length t ≡ n = omega arith in
        q ∙ (ap (λ (j : ℕ). is_less (drop (n - length t) (padded j l)) t) k
        ∙ sym (by-zeros ∙ ap (λ (b : Bool). b && is_less (drop (n - length t) (padded n l)) t) e))
