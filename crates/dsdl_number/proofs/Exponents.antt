-- Laws of exponents.
use mathlib.Core.Path.{◌≡◌, sym, ap, ◌∙◌}
use mathlib.Core.Bool.{true}
use mathlib.Core.List.{List}
use Prim.Native.Nat.{ℕ, ◌+◌, ◌-◌, min}
use lib.ListN.{length, take, drop}
use Rattle.dsdl_text.proofs.Parts.{rest}
use Rattle.dsdl_number.specs.Integer.{value}
use Rattle.dsdl_number.specs.Number.{sign_length, is_exponent, exponent}
use Rattle.dsdl_number.specs.inside.Significand.{zeros}

module _ (e : List ℕ) where
  -- where the digits of an exponent begin
  abbrev from : ℕ
  from = 1 + sign_length (drop 1 e)

  -- how many digits the whole part has
  abbrev whole : ℕ → ℕ → ℕ
  whole before behind = before + min (exponent 43 e) (behind + zeros) - exponent 45 e

  module _ (k : ℕ) (t : is_exponent e ≡ true) (q : k ≡ sign_length (take (length e - 1) (drop 1 e))) where
    same_place : sign_length (drop 1 e) ≡ k
    same_place = sym (q ∙ ap sign_length (rest 1 e))

    digits : value 10 (take (length e - (1 + k)) (drop (1 + k) e)) ≡ value 10 (drop from e)
    digits = ap (value 10) (rest (1 + k) e) ∙ ap (λ (j : ℕ). value 10 (drop (1 + j) e)) (sym same_place)
