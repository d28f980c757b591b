-- RULES 5.2: a set of numbers as a number whose bits, the lowest first, say which are in it.
use Rattle.std.specs.Prelude.{Bool, true, false, ℕ, zero, suc, ◌+◌, ◌*◌}

abbrev pub digit : Bool → ℕ
digit true = 1
digit false = 0

-- of the n numbers from b on, those that pass the test
unfoldable pub set_of : (ℕ → Bool) → ℕ → ℕ → ℕ
set_of f b zero = 0
set_of f b (suc n) = digit (f b) + 2 * set_of f (suc b) n
