-- Numbers by their digits.
use Rattle.std.specs.Prelude.{◌≡◌, Bool, ◌&&◌, List, ℕ, leb, length, drop}
use Rattle.dsdl_number.specs.Integer.{value}
use Rattle.dsdl_number.specs.Number.{Number, whole_part, is_whole}
use Rattle.dsdl_number.specs.inside.Significand.{significand, padded, are_zero}
use Rattle.dsdl_type.specs.declared.base.Base.{Base}
use Rattle.dsdl_type.specs.Constant.{holds}

-- the digits of a literal behind the first n are zeros, and the first n come to at most m
abbrev pub whole_within : List ℕ → ℕ → ℕ → ℕ → ℕ → Bool
whole_within s point n base m =
    are_zero (drop n (padded (length s) (significand point s))) && leb (value base (padded n (significand point s))) m

-- r says whether the type holds the number of this sign whose whole part is the first n digits, and all of it if those behind them are zeros
abbrev pub Judged : Base → Bool → List ℕ → ℕ → ℕ → ℕ → Bool → Type 0
Judged b negative s point n base r =
    (d : Number) → d.negative ≡ negative → is_whole d ≡ are_zero (drop n (padded (length s) (significand point s)))
    → whole_part d ≡ value base (padded n (significand point s)) → r ≡ holds b d
