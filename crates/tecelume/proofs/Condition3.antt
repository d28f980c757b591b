-- Condition 3 over result words, and that bursts are caught: a word fixes the answer that it was made of, so what C reads is what a Rattle caller reads, in another form.
use mathlib.Core.Path.{◌≡◌, ap, ◌∙◌}
use mathlib.Core.List.{List}
use Prim.Native.Nat.{ℕ}
use lib.ListN.{take}
use Rattle.tecelume.specs.Condition3.{WordReading, word_reading, word_bytes}
use Rattle.tecelume.specs.Entry.{packed}
use Rattle.answers.proofs.Words.{told-fits}
use Rattle.answers.specs.Word.{word_of}
use Rattle.batch.proofs.Fits.{received-fits}
use Rattle.words.proofs.Words.{read_back}
use Rattle.answers.proofs.Reception.{told-number}
use Rattle.answers.specs.Reception.{told}
use Rattle.guarantees.proofs.Condition3.{view}
use Rattle.guarantees.specs.Run.{Call, result_of, Reading, reading}
use Rattle.rules.proofs.Lift.{View, lifted, lifted-burst}
use Rattle.rules.specs.Condition3.{Condition3}
use Rattle.rules.specs.Damage.{BurstIsCaught}
use Rattle.rules.specs.Setup.{Setup}

-- a reading of the Rattle call, its answer as a word
abbrev worded : Reading → WordReading
worded r = record { word = word_of r.answer; payload = r.payload }

reads : (m : List ℕ) (c : Call) → word_reading (packed (result_of m c)) ≡ worded (reading (result_of m c))
reads m c =
    let r = result_of m c in
    ap (λ n. record { word = word_of r.answer; payload = take n r.out }) (read_back r.answer (received-fits m c.arrival c.out)).len

word-view : (u : Setup) → View u (word_bytes u)
unfolding view
word-view u =
    record {
      places = (view u).places;
      numbers = λ a h. (read_back (told a) (told-fits a h)).number ∙ told-number a;
      past = (view u).past;
      stays = (view u).stays;
      says = λ m c h t. reads m c ∙ ap worded ((view u).says m c h t);
      moves = (view u).moves;
    }

pub word-theorem : Condition3 word_bytes
word-theorem = lifted word_bytes word-view

pub word-burst : BurstIsCaught word_bytes
word-burst = lifted-burst word_bytes word-view
