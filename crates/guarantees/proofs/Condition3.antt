-- Condition 3 over lent bytes (RULES 14.14), and that bursts are caught (14.18): they answer and move as the rules' table does, through the view.
use mathlib.Core.Path.{ap, ◌∙◌}
use mathlib.Core.List.{List}
use Prim.Native.Nat.{ℕ}
use Rattle.guarantees.specs.Condition3.{Lent, lent_bytes}
use Rattle.guarantees.specs.Received.{Typed}
use Rattle.guarantees.specs.Run.{Call, reception_of, result_of, reading_of}
use Rattle.guarantees.proofs.Received.{view-law, sound-law}
use Rattle.guarantees.proofs.Run.{reading-is}
use Rattle.rules.proofs.Lift.{View, lifted, lifted-burst}
use Rattle.rules.specs.Condition3.{Condition3, lent}
use Rattle.rules.specs.Damage.{BurstIsCaught}
use Rattle.rules.specs.Reception.{step}
use Rattle.rules.specs.Setup.{Setup}
use Rattle.answers.proofs.Reception.{told-number}
use Rattle.state.proofs.Faultless.{table-sound}
use Rattle.state.specs.Layout.{places_of}

pub lent-stays : (u : Setup) (m : List ℕ) (c : Call) → Lent u m → Typed c.arrival.frame → Lent u (result_of m c).state
lent-stays u m c h t =
    let v = view-law m c.arrival c.out h.sound h.bytes t in
    let s = sound-law m c.arrival c.out h.sound h.bytes t in
    record { setup = v.setup ∙ h.setup; sound = s.0; bytes = s.1 }

unfoldable pub view : (u : Setup) → View u (lent_bytes u)
view u =
    record {
      places = places_of;
      numbers = λ a h. told-number a;
      past = λ m h. lent (table-sound m h.sound);
      stays = lent-stays u;
      says = λ m c h t. reading-is m c h.sound ∙ ap (λ w. reading_of (step w (places_of m) (reception_of c)).answer) h.setup;
      moves = λ m c h t. (view-law m c.arrival c.out h.sound h.bytes t).places ∙ ap (λ w. (step w (places_of m) (reception_of c)).places) h.setup;
    }

pub lent-theorem : Condition3 lent_bytes
lent-theorem = lifted lent_bytes view

pub lent-burst : BurstIsCaught lent_bytes
lent-burst = lifted-burst lent_bytes view
