-- RULES 17.1 to 17.5: classes of characters, and the run of such characters at the front of a text.
use Rattle.std.specs.Prelude.{Bool, not, cond, ◌&&◌, ◌||◌, List, [], ◌∷◌, ℕ, suc, leb, ltb, eqb, length}
use Rattle.dsdl_text.specs.declared.class.Class.{Class}
use Rattle.dsdl_text.specs.declared.class.Class.TheVariants.{
  Inline,
  Bare,
  Blank,
  Visible,
  Letter,
  Naming,
  Undotted,
  Unbracketed,
  Positive,
  Decimal,
  Hexadecimal,
  Octal,
  Binary,
}

-- c is one of the characters from a to b
abbrev pub within : ℕ → ℕ → ℕ → Bool
within a b c = leb a c && leb c b

abbrev pub is_blank : ℕ → Bool
is_blank c = eqb c 32 || eqb c 9

abbrev pub is_letter : ℕ → Bool
is_letter c = within 65 90 c || within 97 122 c

abbrev pub is_digit : ℕ → Bool
is_digit c = within 48 57 c

unfoldable pub is_in : Class → ℕ → Bool
is_in Inline c = not (eqb c 10 || eqb c 13)
is_in Bare c = not (eqb c 35)
is_in Blank c = is_blank c
is_in Visible c = not (is_blank c)
is_in Letter c = is_letter c
is_in Naming c = is_letter c || (is_digit c || eqb c 95)
is_in Undotted c = not (eqb c 46)
is_in Unbracketed c = not (eqb c 91)
is_in Positive c = within 49 57 c
is_in Decimal c = is_digit c
is_in Hexadecimal c = is_digit c || (within 65 70 c || within 97 102 c)
is_in Octal c = within 48 55 c
is_in Binary c = within 48 49 c

-- how many characters at the front are of the class
unfoldable pub run : Class → List ℕ → ℕ
run k [] = 0
run k (c ∷ cs) = cond (is_in k c) (suc (run k cs)) 0

-- all of them, and all of at least one
abbrev pub all : Class → List ℕ → Bool
all k l = eqb (run k l) (length l)

abbrev pub many : Class → List ℕ → Bool
many k l = ltb 0 (length l) && all k l
