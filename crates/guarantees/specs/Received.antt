-- RULES 5.6, 5.7: one reception on a lent state without a fault, through the state's view.
use Rattle.std.specs.Prelude.{◌≡◌, true, List, ℕ, ◌^◌, ◌<◌, length, drop}
use Rattle.bits.specs.Order.{Octets}
use Rattle.rules.specs.Frame.{Frame, Arrival}
use Rattle.rules.specs.Reception.{Step, step}
use Rattle.receiver.specs.Receive.{arriving, received}
use Rattle.state.specs.Layout.{size, setup_of, places_of}
use Rattle.state.specs.Sound.{sound_state}

-- What the types of a frame's slice of u8 and its time of u64 give. A number past them would not be read back from the bytes of the layout.
pub record Typed (f : Frame) : Type 0 where
  pub bytes : Octets f.bytes
  pub time : f.time < 2 ^ 64

-- the rules' step on the view
abbrev pub step_on : List ℕ → Arrival → List ℕ → Step
step_on m f out = step (setup_of m) (places_of m) (arriving f out)

-- the view of the state after, and the bytes past the layout
pub record Viewed (m : List ℕ) (f : Arrival) (out : List ℕ) : Type 0 where
  pub setup : setup_of (received m f out).state ≡ setup_of m
  pub places : places_of (received m f out).state ≡ (step_on m f out).places
  pub as_long : length (received m f out).state ≡ length m
  pub past : drop size (received m f out).state ≡ drop size m

-- a state is a slice of u8, so that its elements are bytes
abbrev pub ViewLaw : Type 0
ViewLaw = (m : List ℕ) (f : Arrival) (out : List ℕ) → sound_state m ≡ true → Octets m → Typed f.frame → Viewed m f out

-- the state after has no fault, and is bytes again
abbrev pub SoundLaw : Type 0
SoundLaw =
    (m : List ℕ) (f : Arrival) (out : List ℕ) → sound_state m ≡ true → Octets m → Typed f.frame
    → (sound_state (received m f out).state ≡ true) × Octets (received m f out).state
