-- RULES 18.3, 18.4: the two calls: the answer, and the output buffer after.
use Rattle.std.specs.Prelude.{List, ℕ, ◌^◌, ltb, leb, length, Ok, Err}
use Rattle.std.proofs.Math.Option.{Option, none, some}
use Rattle.bits.specs.Part.{splice}
use Rattle.rules.specs.Frame.{Frame}
use Rattle.rules.specs.Tests.{pick}
use Rattle.capture_convert.specs.Capture.{capture_of, trailer_in, count_in, records_in, trailed, carried_all}
use Rattle.capture_convert.specs.Log.{log_of, frames_of}
use Rattle.capture_convert.specs.Answer.{Converted}
use Rattle.capture_convert.specs.declared.answer.ConvertError.TheVariants.{IllFormed, TooMany, NoCapture, NotCarried, OutputSmall}

pub record Result : Type 0 where
  pub answer : Converted
  pub out : List ℕ

abbrev pub refuse : Converted → List ℕ → Result
refuse a out = record { answer = a; out = out }

-- 8, or what is to be written at the front
unfoldable pub stored : List ℕ → List ℕ → Result
stored text out = pick (leb (length text) (length out)) (record { answer = Ok (length text); out = splice out 0 text }) (refuse (Err OutputSmall) out)

-- ── a log to a capture: 18, 9, 8 ──

unfoldable pub packed : Option (List Frame) → List ℕ → Result
packed none out = refuse (Err IllFormed) out
packed (some fs) out = pick (ltb (length fs) (2 ^ 32)) (stored (capture_of fs) out) (refuse (Err TooMany) out)

abbrev pub captured : List ℕ → List ℕ → Result
captured log out = packed (frames_of log) out

-- ── a capture to a log: 22, 23, 8 ──

unfoldable pub unpacked : Option (List Frame) → List ℕ → Result
unpacked none out = refuse (Err NotCarried) out
unpacked (some fs) out = stored (log_of fs) out

unfoldable pub uncaptured : List ℕ → List ℕ → Result
uncaptured c out =
    pick (trailed c) (unpacked (carried_all (count_in (trailer_in c)) (records_in c (count_in (trailer_in c)))) out) (refuse (Err NoCapture) out)
