-- A frame that is refused, in bytes: the rules' table stays, and writing it back changes no byte.
use mathlib.Core.Path.{◌≡◌, refl, sym, ap, ◌∙◌}
use mathlib.Core.Bool.{Bool, true, false}
use mathlib.Core.List.{List}
use Prim.Native.Nat.{ℕ}
use Rattle.bits.specs.Order.{Octets}
use Rattle.guarantees.specs.Received.{step_on}
use Rattle.guarantees.specs.Refusal.{RefusalLaws}
use Rattle.rules.proofs.Refusals.{refusals}
use Rattle.rules.specs.Answer as rules
use Rattle.rules.specs.Frame.{Arrival}
use Rattle.rules.specs.Refusal.{refuses}
use Rattle.receiver.specs.Receive.{arriving, received_if, received}
use Rattle.answers.proofs.Reception.{told-number}
use Rattle.answers.specs.Reception.{number_of, told, out_after}
use Rattle.state.proofs.Faultless.{ready}
use Rattle.state.proofs.Good.{same-table}
use Rattle.state.specs.Layout.{setup_of, places_of}
use Rattle.state.specs.Place.{written}
use Rattle.state.specs.Sound.{sound_state}

-- only a payload that is handed out is written
out-kept : (a : rules.Answer) (out : List ℕ) → (number_of (told a) ≡ 1 → ⊥) → out_after a out ≡ out
out-kept rules.taken out n = refl
out-kept (rules.handed p d priority t) out n = absurd (n refl)
out-kept (rules.refused k) out n = refl
out-kept rules.full out n = refl
out-kept (rules.passed r) out n = refl
out-kept rules.long out n = refl
out-kept rules.no_block out n = refl
out-kept rules.differs out n = refl

module _ (m : List ℕ) (f : Arrival) (out : List ℕ) where
  state-kept : Octets m → refuses (number_of (received m f out).answer) ≡ true → (received m f out).state ≡ m
  unfolding received received_if
  state-kept bytes = go (sound_state m) refl
    where
      go : (b : Bool) → sound_state m ≡ b → refuses (number_of (received_if b m f out).answer) ≡ true → (received_if b m f out).state ≡ m
      go false e n = refl
      go true e n =
          let number = sym (told-number (step_on m f out).answer) in
          ap (written m) (refusals (setup_of m) (places_of m) (arriving f out) (ap refuses number ∙ n)) ∙ same-table m (ready m e) bytes

  output-kept : (number_of (received m f out).answer ≡ 1 → ⊥) → (received m f out).out ≡ out
  unfolding received received_if
  output-kept = go (sound_state m)
    where
      go : (b : Bool) → (number_of (received_if b m f out).answer ≡ 1 → ⊥) → (received_if b m f out).out ≡ out
      go false n = refl
      go true n = out-kept (step_on m f out).answer out n

pub refusal-laws : RefusalLaws
refusal-laws = record { state = state-kept; output = output-kept }
