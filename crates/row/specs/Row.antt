-- RULES 13.5: a message as a row of numbers of 64 bits, one or more for each field, in the order of the definition.
use Rattle.std.specs.Prelude.{List, ◌∷◌, ℕ, ◌+◌, ◌*◌, ◌-◌, ◌^◌, min, ltb, ℤ, pos, length, get_or}
use Rattle.std.proofs.Math.Option.{Option, none, some}
use Rattle.shape.specs.Answer.{Answer, refused, got, Numbered, refuse_if, wrote}
use Rattle.shape.specs.Cast.{low_bits}
use Rattle.shape.specs.Signed.{signed_of}
use Rattle.shape.specs.declared.answer.Place.{Place}

-- the word of a number, in two's complement
abbrev pub word : ℤ → ℕ
word z = low_bits 64 z

-- the words of a list, and those after it: its place and its length
abbrev pub place_words : Place → List ℕ → List ℕ
place_words p ws = p.at ∷ p.len ∷ ws

-- the number of the i-th word, of an unsigned field: one that cannot be given counts as the nearest that can (RULES 9.14)
abbrev pub count_at : List ℕ → ℕ → ℤ
count_at ws i = pos (min (get_or ws i 0) (2 ^ 63 - 1))

-- and of a signed one
abbrev pub number_at : List ℕ → ℕ → ℤ
number_at ws i = signed_of 64 (get_or ws i 0)

-- ── reading ──

-- 8 for a row with fewer places than there are words, after every other refusal
unfoldable pub placed : ℕ → Answer (List ℕ) → Answer (List ℕ)
placed room (refused n) = refused n
placed room (got ws) = refuse_if (ltb room (length ws)) 8 (got ws)

-- the number answered, and the row m after it: the words at its front, or nothing touched
unfoldable pub row : Answer (List ℕ) → List ℕ → ℕ × List ℕ
row a m = let w = wrote (placed (length m) a) m in (w.0.number, w.1)

-- ── writing ──

-- RULES 13.3: the number in bits 0 to 7, and with success the length of the message from bit 8 on
abbrev pub length_of : Option ℕ → ℕ
length_of none = 0
length_of (some n) = n

unfoldable pub word_of : Numbered ℕ → ℕ
word_of a = a.number + length_of a.value * 2 ^ 8

-- 15 for a row that ends before the n-th word, before every other refusal
abbrev pub given : ℕ → List ℕ → Answer (List ℕ) → Answer (List ℕ)
given n ws a = refuse_if (ltb (length ws) n) 15 a

-- the result word, and the buffer m after it
unfoldable pub message : Answer (List ℕ) → List ℕ → ℕ × List ℕ
message a m = let w = wrote a m in (word_of w.0, w.1)
