-- Bounds of floating types: their digits in base ten, and in binary ones with zeros behind them.
use Rattle.std.specs.Prelude.{◌≡◌, true, List, ℕ, ◌*◌, ◌^◌, ◌<◌, ◌≤◌, get_or}
use Rattle.dsdl_number.specs.Integer.{digit_of, value}
use Rattle.dsdl_number.specs.inside.Significand.{are_below}

abbrev pub Bound : List ℕ → ℕ → ℕ → Type 0
Bound t ones zeros =
    ((1 ≤ ones) × (ones < 2 ^ 60))
    × ((are_below 10 t ≡ true) × ((0 < digit_of (get_or t 0 48)) × (value 10 t ≡ ones * 2 ^ zeros)))
