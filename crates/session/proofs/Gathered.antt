-- The bytes in hand are the first ones of the session's array: whether there are any, those added after them, the checksum in front.
use mathlib.Core.Path.{◌≡◌, refl, sym, ap, ◌∙◌}
use mathlib.Core.Bool.{Bool, true, false, false≢true}
use mathlib.Core.List.{List, [], ◌∷◌, ◌++◌}
use Prim.Native.Nat.{ℕ, suc, ◌+◌, ◌*◌, ◌-◌, ◌≤◌, ◌<◌}
use native.Mathlib.Omega.{arith}
use lib.Dec.{eqb, eqb-suc-zero}
use lib.ListN.{length, get_or, take, drop}
use lib.Seq.{paste, take-paste, take-length}
use Rattle.bits.specs.Part.{span}
use Rattle.checksum.specs.Crc16.{checksum}
use Rattle.rules.specs.Session.{sum_ok}
use Rattle.rules.specs.Tests.{is_empty}

pub empty-length : (g : List ℕ) → is_empty g ≡ eqb (length g) 0
empty-length [] = refl
empty-length (b ∷ bs) = sym (eqb-suc-zero (length bs))

pub take-added : (bs p : List ℕ) (n : ℕ) → n ≤ length bs → take (n + length p) (paste bs n p (length p)) ≡ take n bs ++ p
take-added bs p n h = take-paste bs n p (length p) h (omega arith) ∙ ap (λ (l : List ℕ). take n bs ++ l) (take-length p)

-- ── the checksum in front ──

pub sum-short : (signature : ℕ) (all : List ℕ) → length all < 2 → false ≡ sum_ok signature all
sum-short signature [] h = refl
sum-short signature (a ∷ []) h = refl
sum-short signature (a ∷ b ∷ rest) h = absurd (omega arith)

pub sum-long : (signature : ℕ) (all : List ℕ) (b : Bool) → b ≡ sum_ok signature all → b ≡ true → 2 ≤ length all
sum-long signature [] b e o = absurd (false≢true (sym e ∙ o))
sum-long signature (x ∷ []) b e o = absurd (false≢true (sym e ∙ o))
sum-long signature (x ∷ y ∷ rest) b e o = omega arith

at-two : (signature : ℕ) (s : List ℕ) (n : ℕ) → suc (suc n) ≤ length s
    → eqb (get_or s 0 0 + 256 * get_or s 1 0) (checksum signature (span s 2 n)) ≡ sum_ok signature (take (suc (suc n)) s)
at-two signature [] n h = absurd (omega arith)
at-two signature (a ∷ []) n h = absurd (omega arith)
at-two signature (a ∷ b ∷ rest) n h = refl

behind-two : (s : List ℕ) (n : ℕ) → suc (suc n) ≤ length s → span s 2 n ≡ drop 2 (take (suc (suc n)) s)
behind-two [] n h = absurd (omega arith)
behind-two (a ∷ []) n h = absurd (omega arith)
behind-two (a ∷ b ∷ rest) n h = refl

module _ (s : List ℕ) (len : ℕ) (low : 2 ≤ len) (fits : len ≤ length s) where
  two-more : suc (suc (len - 2)) ≡ len
  two-more = omega arith

  pub sum-at : (signature : ℕ) → eqb (get_or s 0 0 + 256 * get_or s 1 0) (checksum signature (span s 2 (len - 2))) ≡ sum_ok signature (take len s)
  sum-at signature = at-two signature s (len - 2) (omega arith) ∙ ap (λ (n : ℕ). sum_ok signature (take n s)) two-more

  pub behind_sum : span s 2 (len - 2) ≡ drop 2 (take len s)
  behind_sum = behind-two s (len - 2) (omega arith) ∙ ap (λ (n : ℕ). drop 2 (take n s)) two-more
