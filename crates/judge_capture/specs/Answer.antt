-- RULES 13.1, 19.1: the answer of the call. The number of each case, and the frame that it is for.
use Rattle.std.specs.Prelude.{Result, Ok, Err, ℕ}
use Rattle.judge_capture.specs.declared.verdict.Refusal.{Refusal}
use Rattle.judge_capture.specs.declared.verdict.Refusal.TheVariants.{Fails, NoCapture, Unacceptable}

-- it passes, or why not
abbrev pub Verdict : Type 0
Verdict = Result (Unit {0}) Refusal

-- frame i fails condition n
abbrev pub fails_at : ℕ → ℕ → Verdict
fails_at n i = Err (Fails (record { condition = record { 0 = n }; index = i }))

abbrev pub refusal_number : Refusal → ℕ
refusal_number (Fails f) = f.condition.0
refusal_number NoCapture = 22
refusal_number Unacceptable = 13

abbrev pub number_of : Verdict → ℕ
number_of (Ok u) = 0
number_of (Err e) = refusal_number e

-- counted from 0; 0 where there is none
abbrev pub refused_frame : Refusal → ℕ
refused_frame (Fails f) = f.index
refused_frame NoCapture = 0
refused_frame Unacceptable = 0

abbrev pub frame_of : Verdict → ℕ
frame_of (Ok u) = 0
frame_of (Err e) = refused_frame e
