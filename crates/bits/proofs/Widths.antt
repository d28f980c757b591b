-- The width of a length field is the fewest bits that hold the number, and the word size less its leading zeros.
use mathlib.Core.Bool.{Bool, true, false}
use mathlib.Core.Path.{◌≡◌, refl, sym, ◌∙◌}
use Prim.Native.Nat.{ℕ, zero, suc, ◌+◌, ◌*◌, ◌-◌, ◌/◌, ◌^◌, ◌≤◌, ◌<◌}
use native.Mathlib.Nat.{pow-suc}
use native.Mathlib.Omega.{arith}
use lib.Count.{count_leading_zeros, leading_length}
use borrow.Author.Tests.{ltb-true, ltb-false}
use lib.Dec.{lit<, ltb}
use lib.Pow.{pow_mono}
use Rattle.bits.specs.Laws.{WidthLaw}
use Rattle.bits.specs.Width.{width_in, width_of}

holds-in : (d m : ℕ) → m ≤ d → m < 2 ^ width_in d m
unfolding width_in
holds-in zero m h = let z : m ≡ 0 = omega arith in rw z (lit< tt)
holds-in (suc d) zero h = lit< tt
holds-in (suc d) (suc m) h =
    let ih : suc m / 2 < 2 ^ width_in d (suc m / 2) = holds-in d (suc m / 2) (omega arith) in
    rw pow-suc (omega arith)

least-in : (d m k : ℕ) → m < 2 ^ k → width_in d m ≤ k
unfolding width_in
least-in zero m k h = omega arith
least-in (suc d) zero k h = omega arith
least-in (suc d) (suc m) zero h = absurd (omega arith)
least-in (suc d) (suc m) (suc k) h =
    let p : 2 ^ suc k ≡ 2 ^ k * 2 = pow-suc 2 k in
    let ih : width_in d (suc m / 2) ≤ k = least-in d (suc m / 2) k (omega arith) in
    omega arith

pub width-law : WidthLaw
unfolding width_of
width-law m = record { holds = holds-in m m (omega arith); least = λ k h. least-in m m k h }

-- a bound with no room below it is the width
only : (m w : ℕ) → m < 2 ^ w → 2 ^ w ≤ 2 * m + 1 → width_of m ≡ w
only m w h l = go (ltb (width_of m) w) refl where
  go : (b : Bool) → ltb (width_of m) w ≡ b → width_of m ≡ w
  go true e =
      let p : 2 ^ suc (width_of m) ≤ 2 ^ w = pow_mono (ltb-true (width_of m) w e) in
      let q : 2 ^ suc (width_of m) ≡ 2 ^ width_of m * 2 = pow-suc 2 (width_of m) in
      absurd (omega (arith, (width-law m).holds))
  go false e = omega (arith, ltb-false (width_of m) w e, (width-law m).least w h)

pub by-zeros : (m : ℕ) → m < 2 ^ 64 → 64 - count_leading_zeros 64 m ≡ width_of m
by-zeros m h = let s = leading_length 64 m h in sym (only m s.0 s.2 s.3 ∙ omega (arith, s.1))
