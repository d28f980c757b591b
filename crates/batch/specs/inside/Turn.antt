-- RULES 5.8: one record, as the code receives it.
use Rattle.std.specs.Prelude.{◌≡◌, true, List, ℕ}
use Rattle.answers.specs.Word.{word_of}
use Rattle.receiver.specs.Receive.{received}
use Rattle.rules.specs.Frame.{Arrival}
use Rattle.state.specs.Sound.{sound_state}

-- the frame f is answered by the word w, and the state has no fault after it
pub record Received (m : List ℕ) (f : Arrival) (o : List ℕ) (w : ℕ) (m' o' : List ℕ) : Type 0 where
  pub word : w ≡ word_of (received m f o).answer
  pub state : m' ≡ (received m f o).state
  pub out : o' ≡ (received m f o).out
  pub sound : sound_state m' ≡ true
