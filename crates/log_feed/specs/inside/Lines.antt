-- RULES 12.4: what the loop over the lines of a block leaves.
use Rattle.std.specs.Prelude.{◌≡◌, true, List, ℕ, ◌≤◌, length, take, drop}
use Rattle.state.specs.Sound.{sound_state}
use Rattle.log_replay.specs.declared.Counts.{Counts}
use Rattle.log_line.specs.Lines.{cut}
use Rattle.log_feed.specs.Log.{replay}
use Rattle.log_feed.specs.declared.Ran as ran

-- of the state m, the counts c and the block p; n is the length of the output buffer
pub record Lined (m : List ℕ) (c : Counts) (p : List ℕ) (n : ℕ) (r : ran.Ran) (m' out' : List ℕ) : Type 0 where
  pub run : replay m c (cut p).whole ≡ record { text = take r.at out'; state = m'; counts = r.counts }
  pub rest : (cut p).rest ≡ drop r.from p
  pub sound : sound_state m' ≡ true
  pub from : r.from ≤ length p
  pub room : r.at ≤ n
