-- Numbers of digits, compared as they grow.
use mathlib.Core.Path.{◌≡◌, sym}
use mathlib.Core.Bool.{false}
use mathlib.Core.List.{List, [], ◌∷◌}
use Prim.Native.Nat.{ℕ, zero, suc, ◌+◌, ◌*◌, ◌-◌, ◌/◌, ◌≤◌, ◌<◌, min}
use native.Mathlib.Nat.{mul-suc, mul-le-mul_right, div-lt_iff_lt-mul, div-mul-le_self}
use native.Mathlib.Omega.{arith}
use borrow.Author.Tests.{lt-leb}
use lib.Dec.{leb}
use lib.ListN.{length, get_or, drop}
use lib.Seq.{drop-cons}
use Rattle.dsdl_number.specs.Integer.{digit_of, value_from}

-- digits never make a number less
pub grown : (b : ℕ) (s : List ℕ) (x : ℕ) → 1 ≤ b → x ≤ value_from b x s
unfolding value_from
grown zero s x h = absurd (omega arith)
grown (suc b) [] x h = omega arith
grown (suc b) (c ∷ cs) x h = let g = grown (suc b) cs (x * suc b + digit_of c) h in let m = mul-suc x b in omega arith

pub turn : (b v d : ℕ) (s : List ℕ) (i : ℕ) → i < length s → d ≡ digit_of (get_or s i 0) → value_from b v (drop i s) ≡ value_from b (v * b + d) (drop (suc i) s)
unfolding value_from
turn b v d s i h e = rw (drop-cons s i 0, e)

-- a number that is already too large
pub over : (b v d m n : ℕ) (s : List ℕ) → 1 ≤ b → value_from b (v * b + d) s ≡ n → m < v * b + d → false ≡ leb n m
over b v d m n s hb q l = let g = grown b s (v * b + d) hb in sym (lt-leb n m (omega arith))

pub cut-over : (b v d m n : ℕ) (s : List ℕ) → 1 ≤ b → value_from b (v * b + d) s ≡ n → m < v * b + d → m ≡ min n m
cut-over b v d m n s hb q l = let g = grown b s (v * b + d) hb in omega arith

-- the test by a quotient
pub quotient-below : (b v d m : ℕ) → 1 ≤ b → d ≤ m → (m - d) / b < v → m < v * b + d
quotient-below b v d m hb h l = let q = (div-lt_iff_lt-mul hb).0 l in omega arith

pub quotient_fits : (b v d m : ℕ) → d ≤ m → v ≤ (m - d) / b → v * b + d ≤ m
quotient_fits b v d m h l = omega (arith, div-mul-le_self (m - d) b, mul-le-mul_right b l)
