-- RULES 12.2, 12.8: reading a line, in the steps that the code takes. specs/Laws.antt says what it comes to.
use Rattle.std.specs.Prelude.{Bool, true, false, ◌&&◌, List, [], ◌∷◌, ◌++◌, ℕ, zero, suc, ◌+◌, ◌*◌, ◌-◌, ◌/◌, ◌%◌, ltb, leb, eqb, length, get_or, drop, replicate, Some, None}
use Rattle.std.specs.Prelude as std
use Rattle.std.proofs.Math.Option.{Option, none, some}
use Rattle.bits.specs.Part.{span}
use Rattle.log_line.specs.declared.read.Line.{Line}
use Rattle.rules.specs.Frame.{Frame}
use Rattle.rules.specs.Tests.{pick}
use Rattle.digits.specs.Digits.{count_of, number}
use Rattle.digits.specs.Find.{before}

-- ── data bytes ──

-- a space and two digits
unfoldable pub pair_of : List ℕ → Option ℕ
pair_of l = pick (eqb (get_or l 0 0) 32) (number 16 (span l 1 2)) none

abbrev pub paired : Option ℕ → Option (List ℕ) → Option (List ℕ)
paired none bs = none
paired (some b) none = none
paired (some b) (some bs) = some (b ∷ bs)

unfoldable pub pairs : ℕ → List ℕ → Option (List ℕ)
pairs zero l = some []
pairs (suc k) l = paired (pair_of l) (pairs k (drop 3 l))

-- ── the line: s characters of seconds come before the first dot ──

-- 1 to 9 of them; the length is that of a line with 0 to 8 bytes; the space and the line feed are in their places
unfoldable pub shaped : ℕ → List ℕ → Bool
shaped s l =
    ltb 0 s && (leb s 9 && (leb (s + 14) (length l) && (leb (length l) (s + 38) && (eqb ((length l - (s + 14)) % 3) 0
    && (eqb (get_or l (s + 4) 0) 32 && eqb (get_or l (length l - 1) 0) 10)))))

-- seconds, milliseconds, ID and bytes; seconds of s digits have no needless zero in front
unfoldable pub framed : ℕ → Option ℕ → Option ℕ → Option ℕ → Option (List ℕ) → Option Frame
framed s none ms id bs = none
framed s (some sec) none id bs = none
framed s (some sec) (some ms) none bs = none
framed s (some sec) (some ms) (some id) none = none
framed s (some sec) (some ms) (some id) (some bs) =
    pick (eqb (count_of sec) s) (some (record { id = id; bytes = bs; time = sec * 1000000 + ms * 1000 })) none

unfoldable pub fields_of : ℕ → List ℕ → Option Frame
fields_of s l =
    framed s (number 10 (span l 0 s)) (number 10 (span l (s + 1) 3)) (number 16 (span l (s + 5) 8))
    (pairs ((length l - (s + 14)) / 3) (drop (s + 13) l))

-- what a line says; none: it is not well formed
unfoldable pub said : List ℕ → Option Frame
said l = pick (shaped (before 46 l) l) (fields_of (before 46 l) l) none

-- ── as the code tells it ──

-- the reader's struct, where s characters come before the dot: the frame, its bytes filled up with zeros, and how many characters its time takes
abbrev pub line_with : ℕ → Option Frame → std.Option Line
line_with s none = None
line_with s (some f) =
    Some (record {
      head = s + 4;
      id = f.id;
      time = f.time;
      len = length f.bytes;
      bytes = f.bytes ++ replicate (8 - length f.bytes) 0;
    })

abbrev pub line_in : List ℕ → std.Option Line
line_in l = line_with (before 46 l) (said l)
