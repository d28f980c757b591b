-- Both fields of a verdict's word are read back.
use native.Mathlib.Omega.{arith}
use Rattle.judge_capture.proofs.Theorems.{range}
use Rattle.words.proofs.laws.verdict_word_fields.Goals as goal

pub returns : goal.returns
returns c = record { number = λ s k o. omega (arith, range s k o); frame = λ s k o. omega (arith, range s k o) }
