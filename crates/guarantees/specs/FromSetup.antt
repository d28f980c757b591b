-- RULES 5.7, 4.11 and 14.14: from a call of setup to lists of calls of `receive`. This is what an integrator may rely on.
use Rattle.std.specs.Prelude.{◌≡◌, true, List, map, ℕ, Ok}
use Rattle.bits.specs.Order.{Octets}
use Rattle.guarantees.specs.Condition3.{Lent, receiving}
use Rattle.guarantees.specs.Received.{Typed}
use Rattle.guarantees.specs.Run.{Call, result_of, receptions, AllTyped, readings, reading_of}
use Rattle.rules.specs.BlockBounds.{modest}
use Rattle.rules.specs.Condition3.{All, Machine, Condition3}
use Rattle.rules.specs.Damage.{BurstIsCaught}
use Rattle.rules.specs.Reception.{run}
use Rattle.rules.specs.Setup.{Setup}
use Rattle.rules.specs.Table.{begun}
use Rattle.setup.specs.Setup.{given, after_setup}
use Rattle.answers.specs.declared.Answer.TheVariants.{NoBlock}
use Rattle.state.specs.Layout.{places_of}

-- a setup call that succeeds: the lent bytes m, the own ID and the subscription records r
pub record SetUp (m : List ℕ) (own : ℕ) (r : List ℕ) : Type 0 where
  pub bytes : Octets m
  pub records : Octets r
  pub done : (after_setup m own r).answer ≡ Ok tt

-- the bytes that a setup call left, and what calls of `receive` made of them, one after the other
pub data Reached (u : Setup) : List ℕ → Type 0 where
  set_up : (m : List ℕ) (own : ℕ) (r : List ℕ) → SetUp m own r → given own r ≡ u → Reached u (after_setup m own r).state
  called : {m : List ℕ} → Reached u m → (c : Call) → Typed c.arrival.frame → Reached u (result_of m c).state

abbrev pub set_up_bytes : Setup → Machine
set_up_bytes u = receiving (Reached u)

pub record FromSetup : Type 0 where
  -- RULES 3.5: setup leaves a state of the setup that was given, without a fault, with nothing held
  pub begins : (m : List ℕ) (own : ℕ) (r : List ℕ) → SetUp m own r
      → Lent (given own r) (after_setup m own r).state × (places_of (after_setup m own r).state ≡ begun)
  -- RULES 5.7: the calls after it read as the rules answer from an empty table
  pub reads : (m : List ℕ) (own : ℕ) (r : List ℕ) → SetUp m own r → (cs : List Call) → AllTyped cs
      → readings (after_setup m own r).state cs ≡ map reading_of (run (given own r) begun (receptions cs))
  -- RULES 4.13: and none of them is answered 26, where no session ever needs more than two blocks
  pub served : (m : List ℕ) (own : ℕ) (r : List ℕ) → SetUp m own r → (cs : List Call) → AllTyped cs → modest 2 (given own r) begun (receptions cs) ≡ true
      → All (λ x. x.answer ≡ NoBlock → ⊥) (readings (after_setup m own r).state cs)
  -- every state reached so is one that condition 3 is about (RULES 14.2)
  pub lasts : (u : Setup) (m : List ℕ) → Reached u m → Lent u m
  -- RULES 14.14: and condition 3 holds of two receivers that were set up alike, each with any calls since
  pub condition3 : Condition3 set_up_bytes
  -- RULES 14.18: and of each of them a burst is caught
  pub bursts : BurstIsCaught set_up_bytes
