-- Numbers that are cut to a cap.
use mathlib.Core.Path.{◌≡◌, ap, ◌∙◌}
use mathlib.Core.List.{List, [], ◌∷◌}
use Prim.Native.Nat.{ℕ, zero, suc, ◌+◌, ◌*◌, ◌≤◌, ◌<◌, min}
use native.Mathlib.Omega.{arith}
use native.Mathlib.Nat.{mul-suc, lt_of_not-le}
use native.Mathlib.Decide.{dec_le}
use lib.ListN.{length, get_or, drop}
use lib.Seq.{drop-cons, drop-length}
use Rattle.dsdl_number.specs.Integer.{digit_of, value_from}

-- a number times a base, plus a digit, is cut alike where the number is
step : (m b x y d : ℕ) → min x m ≡ min y m → min (x * b + d) m ≡ min (y * b + d) m
step m zero x y d h = omega arith
step m (suc b) x y d h = go (dec_le m x) (dec_le m y) where
  go : Dec (m ≤ x) → Dec (m ≤ y) → min (x * suc b + d) m ≡ min (y * suc b + d) m
  go (yes p) (yes q) = omega (arith, mul-suc x b, mul-suc y b)
  go (yes p) (no q) = absurd (q (omega arith))
  go (no p) (yes q) = absurd (p (omega arith))
  go (no p) (no q) = let e : x ≡ y = omega (arith, lt_of_not-le p, lt_of_not-le q) in rw e

alike : (m b : ℕ) (s : List ℕ) (x y : ℕ) → min x m ≡ min y m → min (value_from b x s) m ≡ min (value_from b y s) m
unfolding value_from
alike m b [] x y h = h
alike m b (c ∷ cs) x y h = alike m b cs (x * b + digit_of c) (y * b + digit_of c) (step m b x y (digit_of c) h)

pub on : (m b : ℕ) (s : List ℕ) (i v d w : ℕ) → i < length s → d ≡ digit_of (get_or s i 0) → w ≡ min (v * b + d) m
    → min (value_from b w (drop (suc i) s)) m ≡ min (value_from b v (drop i s)) m
unfolding value_from
on m b s i v d w h e q =
    let q' : w ≡ min (v * b + digit_of (get_or s i 0)) m = q ∙ ap (λ (n : ℕ). min (v * b + n) m) e in
    rw (drop-cons s i 0) (alike m b (drop (suc i) s) w (v * b + digit_of (get_or s i 0)) (omega arith))

pub done : (b v : ℕ) (s : List ℕ) (i : ℕ) → i ≡ length s → value_from b v (drop i s) ≡ v
unfolding value_from
done b v s i e = rw (e, drop-length s)
