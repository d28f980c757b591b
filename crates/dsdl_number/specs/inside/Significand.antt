-- The digits of a literal without its point, and how many of them are its whole part.
use Rattle.std.specs.Prelude.{Bool, true, false, cond, ◌&&◌, List, [], ◌∷◌, ◌++◌, ℕ, zero, suc, ◌-◌, ltb, eqb, length, take, drop}
use Rattle.dsdl_number.specs.Integer.{digit_of}

-- the digits of a text that has a point behind `point` of them, or none
abbrev pub significand : ℕ → List ℕ → List ℕ
significand point s = take point s ++ drop (suc point) s

-- more zeros than any bound of a constant has digits
abbrev pub zeros : ℕ
zeros = 400

-- the first n digits, with zeros behind them if there are fewer
unfoldable pub padded : ℕ → List ℕ → List ℕ
padded zero l = []
padded (suc n) [] = 48 ∷ padded n []
padded (suc n) (c ∷ cs) = c ∷ padded n cs

unfoldable pub are_zero : List ℕ → Bool
are_zero [] = true
are_zero (c ∷ cs) = eqb (digit_of c) 0 && are_zero cs

-- all are digits of the base b
unfoldable pub are_below : ℕ → List ℕ → Bool
are_below b [] = true
are_below b (c ∷ cs) = ltb (digit_of c) b && are_below b cs

-- of as many digits, the first that differ decide
unfoldable pub is_less : List ℕ → List ℕ → Bool
is_less [] ds = false
is_less (c ∷ cs) [] = false
is_less (c ∷ cs) (d ∷ ds) = cond (ltb (digit_of c) (digit_of d)) true (cond (ltb (digit_of d) (digit_of c)) false (is_less cs ds))

-- a number of digits is below one whose first digit is no zero: it has fewer digits, or zeros before as many that are less
unfoldable pub is_below : List ℕ → List ℕ → Bool
is_below cs ds =
    cond (ltb (length cs) (length ds)) true
    (are_zero (take (length cs - length ds) cs) && is_less (drop (length cs - length ds) cs) ds)
