-- Every answer of a reception fits the result word, and C reads back what was put in.
use mathlib.Core.Path.{◌≡◌, refl}
use mathlib.Core.Bool.{Bool, true, false, ◌||◌}
use mathlib.Core.List.{List}
use Prim.Native.Nat.{ℕ}
use native.Mathlib.Omega.{arith}
use lib.Dec.{eqb}
use Rattle.words.specs.Word.{ReadBack, WordLaws}
use Rattle.rules.proofs.Ranges.{number-law}
use Rattle.rules.specs.Frame.{Arrival}
use Rattle.rules.specs.Range.{answered}
use Rattle.rules.specs.Reception.{step}
use Rattle.batch.proofs.Fits.{received-fits}
use Rattle.receiver.specs.Receive.{arriving, received_if, received}
use Rattle.answers.proofs.Reception.{told-number}
use Rattle.answers.specs.Reception.{number_of}
use Rattle.answers.specs.Word.{transfer_word, word_of, Fits}
use Rattle.answers.specs.declared.Answer.{Answer}
use Rattle.state.specs.Layout.{setup_of, places_of}
use Rattle.state.specs.Sound.{sound_state}

received-numbers : (m : List ℕ) (f : Arrival) (out : List ℕ) → (answered (number_of (received m f out).answer) || eqb (number_of (received m f out).answer) 20) ≡ true
unfolding received received_if
received-numbers m f out = go (sound_state m)
  where
    go : (b : Bool) → (answered (number_of (received_if b m f out).answer) || eqb (number_of (received_if b m f out).answer) 20) ≡ true
    go false = refl
    go true =
        let u = setup_of m in
        let ps = places_of m in
        rw (told-number (step u ps (arriving f out)).answer, number-law u ps (arriving f out))

pub read_back : (a : Answer) → Fits a → ReadBack (word_of a) a
unfolding word_of transfer_word
read_back a h =
    let n = h.number in
    let t = h.transfer in
    record {
      number = omega (arith, n, t);
      len = omega (arith, n, t);
      transfer_type = omega (arith, n, t);
      type = omega (arith, n, t);
      source = omega (arith, n, t);
      destination = omega (arith, n, t);
      priority = omega (arith, n, t);
      transfer = omega (arith, n, t);
    }

pub word_laws : WordLaws
word_laws = record { numbers = received-numbers; fits = received-fits; back = read_back }
