-- RULES 12.3: numbers in text. A base is 10 or 16; digits above 9 are capital letters.
use Rattle.std.specs.Prelude.{List, [], ◌∷◌, ◌++◌, ℕ, zero, suc, ◌+◌, ◌*◌, ◌-◌, ◌/◌, ◌%◌, ◌^◌, ltb}
use Rattle.std.proofs.Math.Option.{Option, none, some}
use Rattle.rules.specs.Tests.{pick}

-- ── a number as digits ──

unfoldable pub glyph : ℕ → ℕ
glyph d = pick (ltb d 10) (48 + d) (55 + d)

-- the w lowest digits of n in base b, the highest first
unfoldable pub digits : ℕ → ℕ → ℕ → List ℕ
digits b zero n = []
digits b (suc w) n = glyph (n / b ^ w % b) ∷ digits b w n

unfoldable pub count_in : ℕ → ℕ → ℕ
count_in zero n = 1
count_in (suc d) n = pick (ltb n 10) 1 (suc (count_in d (n / 10)))

-- how many decimal digits n has; n itself is more than enough to count down from
unfoldable pub count_of : ℕ → ℕ
count_of n = count_in n n

-- with no needless leading zero
unfoldable pub decimal : ℕ → List ℕ
decimal n = digits 10 (count_of n) n

-- each number after a space
unfoldable pub words : List ℕ → List ℕ
words [] = []
words (v ∷ vs) = 32 ∷ (decimal v ++ words vs)

-- each byte as two digits
unfoldable pub hexes : List ℕ → List ℕ
hexes [] = []
hexes (b ∷ bs) = digits 16 2 b ++ hexes bs

-- ── digits as a number ──

-- the digit that a character is; 16, which is a digit in no base, of any other character
unfoldable pub digit_of : ℕ → ℕ
digit_of c = pick (ltb c 48) 16 (pick (ltb c 58) (c - 48) (pick (ltb c 65) 16 (pick (ltb c 71) (c - 55) 16)))

-- the number a so far, continued by the digits of text
unfoldable pub number_from : ℕ → ℕ → List ℕ → Option ℕ
number_from b a [] = some a
number_from b a (c ∷ cs) = pick (ltb (digit_of c) b) (number_from b (a * b + digit_of c) cs) none

-- the number that text stands for in base b, if every character is a digit
abbrev pub number : ℕ → List ℕ → Option ℕ
number b cs = number_from b 0 cs
