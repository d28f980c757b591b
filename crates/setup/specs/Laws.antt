-- RULES 3.5: what holds after a setup that was accepted; `laws.rt` has a function whose contract it is.
use Rattle.std.specs.Prelude.{◌≡◌, true, List, ◌++◌, ℕ, length}
use Rattle.bits.specs.Order.{Octets}
use Rattle.rules.specs.Setup.{Setup, acceptable}
use Rattle.rules.specs.Table.{begun}
use Rattle.setup.specs.Setup.{given, accepted, state_of}
use Rattle.state.specs.Layout.{size, setup_of, places_of}
use Rattle.state.specs.Sound.{sound_state}

-- the state m is that of the setup u, with nothing held and no fault
pub record Fresh (u : Setup) (m : List ℕ) : Type 0 where
  pub setup : setup_of m ≡ u
  pub places : places_of m ≡ begun
  pub sound : sound_state m ≡ true

pub record SetupLaws : Type 0 where
  -- a state fills the layout
  pub as_long : (u : Setup) → acceptable u ≡ true → length (state_of u) ≡ size
  -- whatever is past the layout. That the records are bytes bounds their signatures
  pub fresh : (own : ℕ) (r past : List ℕ) → accepted own r ≡ true → Octets r → Fresh (given own r) (state_of (given own r) ++ past)
