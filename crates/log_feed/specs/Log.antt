-- RULES 12.1, 12.5 to 12.7: what is on standard output, as a definition of what came on standard input.
use Rattle.std.specs.Prelude.{List, [], ◌∷◌, ◌++◌, ℕ}
use Rattle.setup.specs.Setup.{given, state_of}
use Rattle.log_subscriptions.specs.Subscriptions.{subscriptions}
use Rattle.log_line.specs.Lines.{lines_of}
use Rattle.log_line.specs.Reading.{said}
use Rattle.log_replay.specs.Replay.{counted, end_text, reply}
use Rattle.log_replay.specs.declared.Counts.{Counts}

-- RULES 12.7: `time kind type from to prio id len payload` and a line feed
abbrev pub heading : List ℕ
heading =
    116 ∷ 105 ∷ 109 ∷ 101 ∷ 32 ∷
    107 ∷ 105 ∷ 110 ∷ 100 ∷ 32 ∷
    116 ∷ 121 ∷ 112 ∷ 101 ∷ 32 ∷
    102 ∷ 114 ∷ 111 ∷ 109 ∷ 32 ∷
    116 ∷ 111 ∷ 32 ∷
    112 ∷ 114 ∷ 105 ∷ 111 ∷ 32 ∷
    105 ∷ 100 ∷ 32 ∷
    108 ∷ 101 ∷ 110 ∷ 32 ∷
    112 ∷ 97 ∷ 121 ∷ 108 ∷ 111 ∷ 97 ∷ 100 ∷ 10 ∷ []

-- ── each line in order ──

-- the text of all of them, and the receiver's state and the counts after the last
pub record Replay : Type 0 where
  pub text : List ℕ
  pub state : List ℕ
  pub counts : Counts

abbrev pub behind : List ℕ → Replay → Replay
behind t r = record { text = t ++ r.text; state = r.state; counts = r.counts }

unfoldable pub replay : List ℕ → Counts → List (List ℕ) → Replay
replay m c [] = record { text = []; state = m; counts = c }
replay m c (l ∷ ls) = behind (reply m (said l)).text (replay (reply m (said l)).state (counted c (reply m (said l)).handed) ls)

-- the count is the last line of all
abbrev pub closed : Replay → List ℕ
closed r = r.text ++ end_text r.counts

-- ── the whole output ──

-- RULES 12.1: the receiver is node 1
abbrev pub begun : List ℕ
begun = state_of (given 1 subscriptions)

abbrev pub zero : Counts
zero = record { lines = 0; transfers = 0 }

abbrev pub log_of : List ℕ → List ℕ
log_of input = heading ++ closed (replay begun zero (lines_of input))
