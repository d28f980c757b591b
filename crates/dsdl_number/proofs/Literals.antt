-- Laws of the tests on literals.
use mathlib.Core.Path.{◌≡◌, refl, sym}
use mathlib.Core.Bool.{Bool, true, false, cond, ◌&&◌}
use mathlib.Core.List.{List, [], ◌∷◌}
use Prim.Native.Nat.{ℕ, ◌≤◌, ◌<◌}
use native.Mathlib.Omega.{arith}
use lib.Dec.{lit≤}
use native.Mathlib.Nat.{lt_of_not-le}
use native.Mathlib.Decide.{dec_le}
use lib.ListN.{length, take, length-take}
use Rattle.dsdl_text.specs.declared.class.Class.{Class}
use Rattle.dsdl_text.specs.declared.class.Class.TheVariants.{Positive, Decimal, Hexadecimal, Octal, Binary}
use Rattle.dsdl_text.specs.Class.{is_in, all, many}
use Rattle.dsdl_text.specs.Text.{chars, same, first}
use Rattle.dsdl_number.specs.Integer.{is_decimal, is_prefixed, base_of}
use Rattle.dsdl_text.proofs.Texts.{unlike}

pub none : (k : Class) (s : List ℕ) → length s ≡ 0 → false ≡ many k s
none k [] h = refl
none k (x ∷ xs) h = absurd (omega arith)

pub no-positive : (s : List ℕ) → length s ≡ 0 → false ≡ is_in Positive (first s) && all Decimal s
unfolding is_in
no-positive [] h = refl
no-positive (x ∷ xs) h = absurd (omega arith)

pub too_short : (s p : List ℕ) → length s < 2 → length p ≡ 2 → same (take 2 s) p ≡ false
too_short s p h e = sym (unlike (take 2 s) p (λ q. let l = length-take 2 s in omega arith))

-- a literal with a prefix has one, and no base is above 16
module _ (l : List ℕ) where
  pub prefixed : (base_of l ≡ 10 → ⊥) → (base_of l ≡ 0 → ⊥) → 2 ≤ length l
  unfolding base_of
  prefixed t z = go (dec_le 2 (length l)) where
    go : Dec (2 ≤ length l) → 2 ≤ length l
    go (yes h) = h
    go (no h) =
        let q = lt_of_not-le h in
        absurd (absent (is_decimal l)
        (rw (too_short l (chars "0x") q refl, too_short l (chars "0b") q refl, too_short l (chars "0o") q refl) at t)
        (rw (too_short l (chars "0x") q refl, too_short l (chars "0b") q refl, too_short l (chars "0o") q refl) at z)) where
          absent : (b : Bool) → (◌≡◌ {A = ℕ} (cond b 10 0) 10 → ⊥) → (◌≡◌ {A = ℕ} (cond b 10 0) 0 → ⊥) → ⊥
          absent true t' z' = t' refl
          absent false t' z' = z' refl

  pub base-bound : base_of l ≤ 16
  unfolding base_of
  base-bound =
      go (is_decimal l) (is_prefixed (chars "0x") Hexadecimal l) (is_prefixed (chars "0b") Binary l) (is_prefixed (chars "0o") Octal l) where
        go : (a b c d : Bool) → cond a 10 (cond b 16 (cond c 2 (cond d 8 0))) ≤ 16
        go true b c d = lit≤ tt
        go false true c d = lit≤ tt
        go false false true d = lit≤ tt
        go false false false true = lit≤ tt
        go false false false false = lit≤ tt
