-- RULES 17.5: integer literals and their values.
use Rattle.std.specs.Prelude.{Bool, cond, ◌&&◌, ◌||◌, List, [], ◌∷◌, ℕ, ◌+◌, ◌*◌, ◌-◌, ltb, eqb, take, drop}
use Rattle.dsdl_text.specs.Text.{chars, same, first}
use Rattle.dsdl_text.specs.Class.{is_in, all, many}
use Rattle.dsdl_text.specs.declared.class.Class.{Class}
use Rattle.dsdl_text.specs.declared.class.Class.TheVariants.{Positive, Decimal, Hexadecimal, Octal, Binary}

-- of a character that is a digit
abbrev pub digit_of : ℕ → ℕ
digit_of c = cond (ltb c 58) (c - 48) (cond (ltb c 71) (c - 55) (c - 87))

-- the number a, continued by the digits of a text in base b
unfoldable pub value_from : ℕ → ℕ → List ℕ → ℕ
value_from b a [] = a
value_from b a (c ∷ cs) = value_from b (a * b + digit_of c) cs

abbrev pub value : ℕ → List ℕ → ℕ
value b l = value_from b 0 l

abbrev pub is_decimal : List ℕ → Bool
is_decimal l = same l (chars "0") || (is_in Positive (first l) && all Decimal l)

-- digits of a class behind a prefix of two characters
abbrev pub is_prefixed : List ℕ → Class → List ℕ → Bool
is_prefixed prefix k l = same (take 2 l) prefix && many k (drop 2 l)

-- the base of an integer literal; 0 of a text that is none
unfoldable pub base_of : List ℕ → ℕ
base_of l =
    cond (is_decimal l) 10 (cond (is_prefixed (chars "0x") Hexadecimal l) 16
    (cond (is_prefixed (chars "0b") Binary l) 2 (cond (is_prefixed (chars "0o") Octal l) 8 0)))

abbrev pub is_integer : List ℕ → Bool
is_integer l = ltb 0 (base_of l)

abbrev pub digits_of : List ℕ → List ℕ
digits_of l = cond (eqb (base_of l) 10) l (drop 2 l)

abbrev pub integer : List ℕ → ℕ
integer l = value (base_of l) (digits_of l)
