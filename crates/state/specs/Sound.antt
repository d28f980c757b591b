-- RULES 5.4: a lent state without a fault.
use Rattle.std.specs.Prelude.{Bool, ◌&&◌, ◌||◌, List, ℕ, leb, eqb, length}
use Rattle.bits.specs.Tabulate.{every}
use Rattle.rules.specs.Limits.{sessions_max, gathered_max}
use Rattle.rules.specs.Setup.{acceptable}
use Rattle.rules.specs.Sound.{sound}
use Rattle.state.specs.Layout.{size, setup_of, free_of, key_at, count_at, places_of}
use Rattle.state.specs.Place.{free_set}

-- what the view does not show: a count that is out of range
unfoldable pub raw_fits : List ℕ → ℕ → Bool
raw_fits m i = eqb (key_at m i) 0 || leb (count_at m i) gathered_max

-- the free blocks are those that no session has
abbrev pub free_fits : List ℕ → Bool
free_fits m = eqb (free_of m) (free_set (places_of m))

-- long enough, a setup that 13 does not refuse, and a table without a fault
unfoldable pub sound_state : List ℕ → Bool
sound_state m = leb size (length m) && (acceptable (setup_of m) && (every (raw_fits m) 0 sessions_max && (free_fits m && sound (places_of m))))
