-- RULES 17.6: initializers and their exact values.
use Rattle.std.specs.Prelude.{Bool, true, false, not, cond, ◌&&◌, ◌||◌, List, [], ◌++◌, ℕ, ◌+◌, ◌*◌, ◌-◌, ◌/◌, ◌%◌, ◌^◌, leb, ltb, eqb, length, get_or, take, drop}
use Rattle.std.proofs.Math.Option.{Option, none, some}
use Rattle.dsdl_text.specs.Text.{chars, same, first}
use Rattle.dsdl_text.specs.Class.{run, many, within}
use Rattle.dsdl_text.specs.Words.{skip, word, past, ended}
use Rattle.dsdl_text.specs.declared.class.Class.TheVariants.{Decimal, Hexadecimal}
use Rattle.dsdl_number.specs.Integer.{value, is_integer, integer}

-- an exact number: its digits as a whole number, times ten `up` times, divided by ten `down` times
pub record Number : Type 0 where
  pub negative : Bool
  pub digits : ℕ
  pub up : ℕ
  pub down : ℕ

-- the whole part of its absolute value, and whether that is all of it
abbrev pub whole_part : Number → ℕ
whole_part n = n.digits * 10 ^ n.up / 10 ^ n.down

abbrev pub is_whole : Number → Bool
is_whole n = eqb (n.digits * 10 ^ n.up % 10 ^ n.down) 0

abbrev pub whole : Bool → ℕ → Number
whole negative n = record { negative = negative; digits = n; up = 0; down = 0 }

-- ── floating literals ──

abbrev pub is_sign : ℕ → Bool
is_sign c = eqb c 43 || eqb c 45

-- 1 if a sign is in front
abbrev pub sign_length : List ℕ → ℕ
sign_length l = cond (is_sign (first l)) 1 0

abbrev pub digits_in : List ℕ → List ℕ
digits_in l = take (run Decimal l) l

-- the digits behind a point at the front of l; none, if there is no such fraction
abbrev pub fraction : List ℕ → List ℕ
fraction l = cond (eqb (first l) 46) (digits_in (drop 1 l)) []

abbrev pub past_fraction : List ℕ → List ℕ
past_fraction l = cond (ltb 0 (length (fraction l))) (drop (1 + length (fraction l)) l) l

-- an exponent is all of l
abbrev pub is_exponent : List ℕ → Bool
is_exponent l = (eqb (first l) 101 || eqb (first l) 69) && many Decimal (drop (1 + sign_length (drop 1 l)) l)

-- the exponent that l is, to go up or down by
abbrev pub exponent : ℕ → List ℕ → ℕ
exponent sign l = cond (is_exponent l && eqb (cond (eqb (first (drop 1 l)) 45) 45 43) sign) (value 10 (drop (1 + sign_length (drop 1 l)) l)) 0

unfoldable pub is_floating : List ℕ → Bool
is_floating l =
    let r = drop (run Decimal l) l in
    ltb 0 (run Decimal l) && ((ltb 0 (length (fraction r)) && eqb (length (past_fraction r)) 0) || is_exponent (past_fraction r))

unfoldable pub floating : Bool → List ℕ → Number
floating negative l =
    let r = drop (run Decimal l) l in
    record {
      negative = negative;
      digits = value 10 (digits_in l ++ fraction r);
      up = exponent 43 (past_fraction r);
      down = length (fraction r) + exponent 45 (past_fraction r);
    }

-- ── characters ──

-- the code of an escape by its letter; 256, if there is none
abbrev pub escape : ℕ → ℕ
escape c =
    cond (eqb c 97) 7 (cond (eqb c 98) 8 (cond (eqb c 116) 9 (cond (eqb c 110) 10 (cond (eqb c 118) 11 (cond (eqb c 102) 12
    (cond (eqb c 114) 13 (cond (eqb c 48) 0 (cond (eqb c 92) 92 (cond (eqb c 39) 39 (cond (eqb c 34) 34 256))))))))))

-- a quote is the last of the first n characters, and nothing but blanks comes behind it
abbrev pub is_closed : ℕ → List ℕ → Bool
is_closed n l = eqb (get_or l (n - 1) 0) 39 && ended (drop n l)

abbrev pub plain : ℕ → ℕ
plain c = cond (within 32 126 c && not (eqb c 39)) c 256

abbrev pub coded : List ℕ → ℕ
coded digits = cond (many Hexadecimal digits && leb (value 16 digits) 127) (value 16 digits) 256

-- the code of what follows an opening quote: two digits behind `\x`, a letter behind `\`, or a character alone; 256, if it is none
unfoldable pub quoted : List ℕ → ℕ
quoted l =
    cond (eqb (first l) 92)
    (cond (eqb (get_or l 1 0) 120) (cond (is_closed 5 l) (coded (take 2 (drop 2 l))) 256) (cond (is_closed 3 l) (escape (get_or l 1 0)) 256))
    (cond (is_closed 2 l) (plain (first l)) 256)

-- ── an initializer ──

abbrev pub character : ℕ → Option Number
character code = cond (ltb code 256) (some (whole false code)) none

abbrev pub or_else : {A : Type 0} → Option A → Option A → Option A
or_else none b = b
or_else (some a) b = some a

-- a word with a sign before it or none
abbrev pub number : Bool → Bool → List ℕ → Option Number
number signed negative w =
    cond (is_integer w && not (signed && same w (chars "0"))) (some (whole negative (integer w)))
    (cond (is_floating w) (some (floating negative w)) none)

abbrev pub truth : List ℕ → Option Number
truth w = cond (same w (chars "true")) (some (whole false 1)) (cond (same w (chars "false")) (some (whole false 0)) none)

abbrev pub only_word : List ℕ → Option Number → Option Number
only_word l n = cond (ended (past l)) n none

-- the value of an initializer that begins at the front of l
unfoldable pub initializer : List ℕ → Option Number
initializer l =
    cond (eqb (first l) 39) (character (quoted (drop 1 l)))
    (cond (is_sign (first l)) (only_word (skip (drop 1 l)) (number true (eqb (first l) 45) (word (skip (drop 1 l)))))
    (only_word l (or_else (truth (word l)) (number false false (word l)))))
