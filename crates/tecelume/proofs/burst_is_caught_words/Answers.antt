-- A burst is caught over result words (RULES 14.18).
use Rattle.tecelume.proofs.Condition3.{word-burst}
use Rattle.tecelume.proofs.burst_is_caught_words.Goals as goal

pub returns : goal.returns
returns c = word-burst
