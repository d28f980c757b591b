-- RULES 4.12: the blocks of a lent state over lists of calls.
use Rattle.std.specs.Prelude.{◌≡◌, true, List, ℕ}
use Rattle.bits.specs.Order.{Octets}
use Rattle.guarantees.specs.Run.{Call, AllTyped, left}
use Rattle.rules.specs.BlockLaws.{Accounted}
use Rattle.state.specs.Layout.{free_of, places_of}
use Rattle.state.specs.Place.{free_set}
use Rattle.state.specs.Sound.{sound_state}

-- no block is lost or shared, and the free ones are marked
pub record BlocksKept (m : List ℕ) : Type 0 where
  pub accounted : Accounted (places_of m)
  pub marked : free_of m ≡ free_set (places_of m)

abbrev pub BlockLaw : Type 0
BlockLaw = (m : List ℕ) (cs : List Call) → sound_state m ≡ true → Octets m → AllTyped cs → BlocksKept (left m cs)
