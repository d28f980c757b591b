-- RULES 19.1: the call.
use Rattle.std.specs.Prelude.{Ok, Err, List, ℕ}
use Rattle.capture_convert.specs.Capture.{trailer_in, count_in, records_in, trailed}
use Rattle.judge_rules.specs.Verdict as rules
use Rattle.judge_rules.specs.Verdict.{pass, fail, verdict}
use Rattle.rules.specs.Frame.{Frame}
use Rattle.rules.specs.Setup.{Setup}
use Rattle.rules.specs.Tests.{pick}
use Rattle.setup.specs.Setup.{given, accepted}
use Rattle.judge_capture.specs.Record.{frames_told}
use Rattle.judge_capture.specs.Answer.{Verdict, fails_at}
use Rattle.judge_capture.specs.declared.verdict.Refusal.TheVariants.{NoCapture, Unacceptable}

-- the frames of a capture with a right trailer
unfoldable pub frames_in : List ℕ → List Frame
frames_in c = frames_told (count_in (trailer_in c)) (records_in c (count_in (trailer_in c)))

abbrev pub told : rules.Verdict → Verdict
told pass = Ok tt
told (fail n i) = fails_at n i

-- 22, or the verdict
unfoldable pub captured : Setup → List ℕ → Verdict
captured u c = pick (trailed c) (told (verdict u (frames_in c))) (Err NoCapture)

-- of subscription records s and a capture c
unfoldable pub judges : List ℕ → List ℕ → Verdict
judges s c = pick (accepted 0 s) (captured (given 0 s) c) (Err Unacceptable)
