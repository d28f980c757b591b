-- Every answer of a reception on a lent state fits its result word.
use mathlib.Core.Path.{refl}
use mathlib.Core.Bool.{Bool, true, false}
use mathlib.Core.List.{List}
use Prim.Native.Nat.{ℕ}
use native.Mathlib.Omega.{arith}
use Rattle.answers.proofs.Words.{small, told-fits}
use Rattle.answers.specs.Word.{Fits}
use Rattle.answers.specs.declared.Answer.TheVariants.{Faulty}
use Rattle.receiver.specs.Receive.{arriving, received_if, received}
use Rattle.rules.proofs.Ranges.{ranges}
use Rattle.rules.specs.Frame.{Arrival}
use Rattle.rules.specs.Reception.{step}
use Rattle.state.specs.Layout.{setup_of, places_of}
use Rattle.state.specs.Sound.{sound_state}

pub received-fits : (m : List ℕ) (f : Arrival) (out : List ℕ) → Fits (received m f out).answer
unfolding received received_if
received-fits m f out = go (sound_state m)
  where
    go : (b : Bool) → Fits (received_if b m f out).answer
    go false = small Faulty refl (omega arith)
    go true = told-fits (step (setup_of m) (places_of m) (arriving f out)).answer (ranges (setup_of m) (places_of m) (arriving f out))
