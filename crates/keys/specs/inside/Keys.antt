-- For RULES 3.4, 5.4 and 8.5: tables of keys, 0 for an empty place.
use Rattle.std.specs.Prelude.{Bool, true, ◌&&◌, ◌||◌, List, [], ◌∷◌, ℕ, zero, suc, ◌+◌, ◌*◌, ◌/◌, ◌%◌, eqb}
use mir.Val.{bool_byte}
use Rattle.bits.specs.Little.{le}
use Rattle.bits.specs.Part.{span}
use Rattle.rules.specs.Tests.{pick}

-- key i of those from `at` on
abbrev pub word_at : List ℕ → ℕ → ℕ → ℕ
word_at s at i = le (span s (at + i * 4) 4)

-- how often k is in a list
unfoldable pub count : ℕ → List ℕ → ℕ
count k [] = 0
count k (x ∷ xs) = bool_byte (eqb x k) + count k xs

-- no key but 0 is there twice
unfoldable pub distinct : List ℕ → Bool
distinct [] = true
distinct (k ∷ more) = (eqb k 0 || eqb (count k more) 0) && distinct more

-- the lowest number from i on that f takes, or i + n where none of n does
unfoldable pub lowest : (ℕ → Bool) → ℕ → ℕ → ℕ
lowest f i zero = i
lowest f i (suc n) = pick (f i) i (lowest f (suc i) n)

-- how many marks a walk has, and which one a key sets
abbrev pub marks_max : ℕ
marks_max = 128

abbrev pub mark_at : ℕ → ℕ
mark_at k = k * 2654435769 / 33554432 % marks_max
