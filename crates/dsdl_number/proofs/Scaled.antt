-- A number of digits times and divided by powers of ten is the number of more or fewer of the digits.
use mathlib.Core.Path.{◌≡◌, refl, sym, ap, ◌∙◌}
use mathlib.Core.Bool.{Bool, true, false}
use mathlib.Core.List.{List, [], ◌∷◌}
use Prim.Native.Nat.{ℕ, zero, suc, ◌+◌, ◌*◌, ◌-◌, ◌/◌, ◌%◌, ◌^◌, ◌≤◌, ◌<◌}
use native.Mathlib.Omega.{arith}
use native.Mathlib.Nat.{pow-zero, pow-suc, pow-succ', mul_assoc, mul-one, div-one, div-div-eq-div-mul, mul-add-div_right, div-eq_of_lt, add-zero, add-suc, zero-div, zero-mul, sub-zero, zero-sub, suc-sub-suc, lt_of_not-le, div-lt_iff_lt-mul, one-le-pow, div-add-mod', mul-add-mod_self_right, zero-mod}
use native.Mathlib.Decide.{dec_le}
use borrow.Author.Tests.{eq-eqb, ne_eqb, lt-ltb, le-ltb, le-leb, lt-leb}
use lib.Dec.{leb, ltb, eqb}
use lib.ListN.{length, get_or, drop}
use Rattle.dsdl_number.proofs.Significands.{differ, none, absent, zero-at, at_zero, below_at}
use Rattle.dsdl_number.specs.Integer.{digit_of, value_from, value}
use Rattle.dsdl_number.specs.inside.Significand.{padded, are_zero, are_below}

-- one digit more behind the others
one_more : (b a n : ℕ) (l : List ℕ) → value_from b a (padded (suc n) l) ≡ value_from b a (padded n l) * b + digit_of (get_or l n 48)
unfolding value_from padded
one_more b a zero [] = refl
one_more b a zero (x ∷ xs) = refl
one_more b a (suc n) [] = one_more b (a * b + digit_of 48) n [] ∙ ap (λ (c : ℕ). value_from b (a * b + digit_of 48) (padded n []) * b + digit_of c) (none n)
one_more b a (suc n) (x ∷ xs) = one_more b (a * b + digit_of x) n xs

pub all_of : (b a : ℕ) (l : List ℕ) → value_from b a (padded (length l) l) ≡ value_from b a l
unfolding value_from padded
all_of b a [] = refl
all_of b a (x ∷ xs) = all_of b (a * b + digit_of x) xs

-- ── divided by a power of the base ──

at_least : (x y : ℕ) → (x < y → ⊥) → y ≤ x
at_least x y h = omega arith

module _ (b : ℕ) (l : List ℕ) (hb : 0 < b) (small : are_below b l ≡ true) where
  less : (n : ℕ) → value b (padded (suc n) l) / b ≡ value b (padded n l)
  less n =
      ap (λ (v : ℕ). v / b) (one_more b 0 n l) ∙ (mul-add-div_right hb (value b (padded n l)) (digit_of (get_or l n 48))
      ∙ (ap (λ (v : ℕ). value b (padded n l) + v) (div-eq_of_lt (below_at b l n hb small)) ∙ add-zero (value b (padded n l))))

  down_by : (w n : ℕ) → value b (padded n l) / b ^ w ≡ value b (padded (n - w) l)
  unfolding value_from padded
  down_by zero n =
      ap (λ (p : ℕ). value b (padded n l) / p) (pow-zero b)
      ∙ (div-one (value b (padded n l)) ∙ ap (λ (k : ℕ). value b (padded k l)) (sym (sub-zero n)))
  down_by (suc w) zero = zero-div (b ^ suc w) ∙ ap (λ (k : ℕ). value b (padded k l)) (sym (zero-sub (suc w)))
  down_by (suc w) (suc n) =
      ap (λ (p : ℕ). value b (padded (suc n) l) / p) (pow-succ' b w) ∙ (sym (div-div-eq-div-mul (value b (padded (suc n) l)) b (b ^ w))
      ∙ (ap (λ (v : ℕ). v / b ^ w) (less n) ∙ (down_by w n ∙ ap (λ (k : ℕ). value b (padded k l)) (sym (suc-sub-suc n w)))))

  -- below a bound that ends in zeros, if the digits before them are
  pub below-scaled : (q w n : ℕ) → ltb (value b (padded n l)) (suc q * b ^ w) ≡ leb (value b (padded (n - w) l)) q
  below-scaled q w n = go (dec_le (value b (padded (n - w) l)) q) where
    go : Dec (value b (padded (n - w) l) ≤ q) → ltb (value b (padded n l)) (suc q * b ^ w) ≡ leb (value b (padded (n - w) l)) q
    go (yes h) =
        lt-ltb (value b (padded n l)) (suc q * b ^ w) ((div-lt_iff_lt-mul (one-le-pow w b hb)).0 (omega (arith, down_by w n)))
        ∙ sym (le-leb (value b (padded (n - w) l)) q h)
    go (no h) =
        le-ltb (value b (padded n l)) (suc q * b ^ w)
        (at_least _ _ (λ x. h (omega (arith, down_by w n, (div-lt_iff_lt-mul (one-le-pow w b hb)).1 x))))
        ∙ sym (lt-leb (value b (padded (n - w) l)) q (lt_of_not-le h))

-- ── numbers in base ten ──

module _ (l : List ℕ) where
  abbrev first : ℕ → ℕ
  first n = value 10 (padded n l)

  -- times a power
  pub up_by : (u : ℕ) → first (length l + u) ≡ value 10 l * 10 ^ u
  up_by zero = ap first (add-zero (length l)) ∙ (all_of 10 0 l ∙ sym (ap (λ (p : ℕ). value 10 l * p) (pow-zero 10) ∙ mul-one (value 10 l)))
  up_by (suc u) =
      let z : get_or l (length l + u) 48 ≡ 48 = absent l (length l + u) (omega arith) in
      let e : first (suc (length l + u)) ≡ first (length l + u) * 10 + digit_of 48 = one_more 10 0 (length l + u) l ∙ ap (λ (c : ℕ). first (length l + u) * 10 + digit_of c) z in
      let f : first (length l + u) * 10 + digit_of 48 ≡ first (length l + u) * 10 = add-zero (first (length l + u) * 10) in
      let g : first (length l + u) * 10 ≡ value 10 l * 10 ^ u * 10 = ap (λ (v : ℕ). v * 10) (up_by u) in
      ap first (add-suc (length l) u) ∙ (e ∙ (f ∙ (g ∙ (mul_assoc (value 10 l) (10 ^ u) 10 ∙ ap (λ (p : ℕ). value 10 l * p) (sym (pow-suc 10 u))))))

  -- divided by a power
  module _ (small : are_below 10 l ≡ true) where
    -- nothing is left over, if the last digits are zeros
    zeros-end : (w n : ℕ) → ((k : ℕ) → n - w ≤ k → k < n → digit_of (get_or l k 48) ≡ 0) → first n ≡ first (n - w) * 10 ^ w
    unfolding value_from padded
    zeros-end zero n z = ap first (sym (sub-zero n)) ∙ sym (mul-one (first (n - 0)))
    zeros-end (suc w) zero z = sym (ap (λ (v : ℕ). first v * 10 ^ suc w) (zero-sub (suc w)) ∙ zero-mul (10 ^ suc w))
    zeros-end (suc w) (suc n) z =
        let i : first n ≡ first (n - w) * 10 ^ w = zeros-end w n (λ k a h. z k (omega arith) (omega arith)) in
        let d : digit_of (get_or l n 48) ≡ 0 = z n (omega arith) (omega arith) in
        let e : first (suc n) ≡ first n * 10 = one_more 10 0 n l ∙ (ap (λ (v : ℕ). first n * 10 + v) d ∙ add-zero (first n * 10)) in
        e ∙ (ap (λ (v : ℕ). v * 10) i ∙ (mul_assoc (first (n - w)) (10 ^ w) 10
        ∙ (ap (λ (p : ℕ). first (n - w) * p) (sym (pow-suc 10 w)) ∙ ap (λ (j : ℕ). first j * 10 ^ suc w) (sym (suc-sub-suc n w)))))

    -- and only then
    end-zeros : (w n q : ℕ) → first n ≡ q * 10 ^ w → (k : ℕ) → n - w ≤ k → k < n → digit_of (get_or l k 48) ≡ 0
    end-zeros zero n q e k a h = absurd (omega arith)
    end-zeros (suc w) zero q e k a h = absurd (omega arith)
    end-zeros (suc w) (suc n) q e k a h =
        let times : first n * 10 + digit_of (get_or l n 48) ≡ q * 10 ^ w * 10
        = sym (one_more 10 0 n l) ∙ (e ∙ (ap (λ (p : ℕ). q * p) (pow-suc 10 w) ∙ sym (mul_assoc q (10 ^ w) 10))) in
        go (dec_le n k) (omega (arith, times, below_at 10 l n (omega arith) small)) (λ h'. end-zeros w n q (omega (arith, times, below_at 10 l n (omega arith) small)) k (omega arith) h') where
          go : Dec (n ≤ k) → digit_of (get_or l n 48) ≡ 0 → (k < n → digit_of (get_or l k 48) ≡ 0) → digit_of (get_or l k 48) ≡ 0
          go (yes p) d r = let i : k ≡ n = omega arith in ap (λ (j : ℕ). digit_of (get_or l j 48)) i ∙ d
          go (no p) d r = r (lt_of_not-le p)

    -- a number of all digits, scaled: its whole part, and whether that is all of it
    module _ (u w : ℕ) where
      abbrev scaled : ℕ
      scaled = value 10 l * 10 ^ u

      pub whole-part : scaled / 10 ^ w ≡ first (length l + u - w)
      whole-part = ap (λ (v : ℕ). v / 10 ^ w) (sym (up_by u)) ∙ down_by 10 l (omega arith) small w (length l + u)

      all_whole : are_zero (drop (length l + u - w) l) ≡ true → scaled % 10 ^ w ≡ 0
      all_whole e =
          let z = zeros-end w (length l + u) (λ k a h. zero-at l (length l + u - w) k a e) in
          ap (λ (v : ℕ). v % 10 ^ w) (sym (up_by u) ∙ (z ∙ sym (add-zero (first (length l + u - w) * 10 ^ w))))
          ∙ (mul-add-mod_self_right (first (length l + u - w)) (10 ^ w) 0 ∙ zero-mod (10 ^ w))

      whole-all : scaled % 10 ^ w ≡ 0 → are_zero (drop (length l + u - w) l) ≡ true
      whole-all e =
          let q : first (length l + u) ≡ scaled / 10 ^ w * 10 ^ w = up_by u ∙ omega (arith, div-add-mod' scaled (10 ^ w)) in
          at_zero l (length l + u - w) (λ k a h. end-zeros w (length l + u) (scaled / 10 ^ w) q k a (omega arith))

      pub is-whole : eqb (scaled % 10 ^ w) 0 ≡ are_zero (drop (length l + u - w) l)
      is-whole = go (are_zero (drop (length l + u - w) l)) refl where
        go : (b : Bool) → b ≡ are_zero (drop (length l + u - w) l) → eqb (scaled % 10 ^ w) 0 ≡ b
        go true e = eq-eqb (scaled % 10 ^ w) 0 (all_whole (sym e))
        go false e = ne_eqb (scaled % 10 ^ w) 0 (λ z. differ (e ∙ whole-all z))
