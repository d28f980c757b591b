-- Values of parameters in rows: what their code goes by.
use mathlib.Core.Path.{◌≡◌, refl, ap, ◌∙◌}
use mathlib.Core.Bool.{false}
use mathlib.Core.List.{List}
use Prim.Native.Nat.{ℕ, zero, suc, ◌+◌, ◌%◌, ◌^◌, ◌<◌}
use native.Mathlib.Nat.{mod-eq_of_lt}
use native.Mathlib.Omega.{arith}
use borrow.Author.Tests.{ltb-false, eq-eqb, ne_eqb}
use lib.Dec.{ltb}
use lib.IntN.{ℤ, pos, negsuc, nat_abs}
use lib.ListN.{get_or}
use Rattle.protocol_param.specs.Value.{value_of_tag}
use Rattle.protocol_param.specs.declared.value.Value.TheVariants.{Real}
use Rattle.row.specs.Row.{count_at, number_at}
use Rattle.message_fields.specs.GetSet.{value_from}
use Rattle.message_fields.specs.inside.Value.{too_large}
use Rattle.row.proofs.Rows.{both}

-- of a tag that is not that of a real, what is given for a real does not count
other-real : (t z b : ℤ) (x y : ℕ) → (t ≡ pos 2 → x ≡ y) → value_of_tag t z x b ≡ value_of_tag t z y b
other-real (pos zero) z b x y e = refl
other-real (pos (suc zero)) z b x y e = refl
other-real (pos (suc (suc zero))) z b x y e = ap Real (e refl)
other-real (pos (suc (suc (suc zero)))) z b x y e = refl
other-real (pos (suc (suc (suc (suc zero))))) z b x y e = refl
other-real (pos (suc (suc (suc (suc (suc t)))))) z b x y e = refl
other-real (negsuc t) z b x y e = refl

module _ (ws : List ℕ) (i : ℕ) where
  pub not-real : (get_or ws i 0 ≡ 2 → ⊥) → false ≡ too_large ws i
  unfolding too_large
  not-real h = rw (ne_eqb (get_or ws i 0) 2 h)

  pub of-real : get_or ws i 0 ≡ 2 → ltb 4294967295 (get_or ws (i + 1) 0) ≡ too_large ws i
  unfolding too_large
  of-real h = rw (eq-eqb (get_or ws i 0) 2 h)

  -- a real that is not too large
  small : too_large ws i ≡ false → get_or ws i 0 ≡ 2 → get_or ws (i + 1) 0 < 2 ^ 32
  small e h = omega (arith, ltb-false 4294967295 (get_or ws (i + 1) 0) (of-real h ∙ e))

  -- the value, its real cut to 32 bits
  pub made : too_large ws i ≡ false → (t z b : ℤ) (x : ℕ) → t ≡ count_at ws i → z ≡ number_at ws (i + 1) → x ≡ get_or ws (i + 1) 0 % 2 ^ 32 → b ≡ count_at ws (i + 1)
      → value_of_tag t z x b ≡ value_from ws i
  made h t z b x et ez ex eb =
      ap (λ (p : (ℤ × ℤ) × (ℤ × ℕ)). value_of_tag p.0.0 p.0.1 p.1.1 p.1.0) (both (both et ez) (both eb ex))
      ∙ other-real (count_at ws i) (number_at ws (i + 1)) (count_at ws (i + 1)) (get_or ws (i + 1) 0 % 2 ^ 32) (get_or ws (i + 1) 0) cut where
        cut : count_at ws i ≡ pos 2 → get_or ws (i + 1) 0 % 2 ^ 32 ≡ get_or ws (i + 1) 0
        cut e = mod-eq_of_lt (small h (omega (arith, ap nat_abs e)))
