-- RULES 5.4: the test for faults as the code goes: each place by itself, the keys of all, and the blocks of all.
use Rattle.std.specs.Prelude.{None, Some, Bool, false, not, ◌&&◌, ◌||◌, List, [], ◌∷◌, ℕ, ◌/◌, ◌%◌, ltb, leb, eqb}
use Rattle.std.proofs.Math.Option.{Option, none, some}
use Rattle.std.specs.declared.option.Option as rust
use Rattle.bits.specs.Tabulate.{tabulate}
use Rattle.blocks.specs.inside.Bit.{including}
use Rattle.rules.specs.Blocks.{used}
use Rattle.rules.specs.Limits.{sessions_max, gathered_max, interfaces_max}
use Rattle.rules.specs.Sound.{stream_fits}
use Rattle.rules.specs.Tests.{pick}
use Rattle.sessions.specs.inside.Blocks.{new_to}
use Rattle.state.specs.Layout.{free_of, key_at, count_at, expected_at, flags_at, places_of}
use Rattle.frame.specs.Key.{stream_of_key}

-- the bytes in hand, the expected transfer ID, the followed interface and the toggle of place i
unfoldable pub control_fits : List ℕ → ℕ → Bool
control_fits m i =
    leb (count_at m i) gathered_max
    && (ltb (expected_at m i) 32 && (ltb (flags_at m i / 2) interfaces_max && (not (eqb (flags_at m i % 2) 1) || ltb 0 (count_at m i))))

-- place i is empty, or its stream and its control fields are in range
unfoldable pub empty_or_fits : List ℕ → ℕ → Bool
empty_or_fits m i = eqb (key_at m i) 0 || (stream_fits (stream_of_key (key_at m i)) && control_fits m i)

abbrev pub keys_of : List ℕ → List ℕ
keys_of m = tabulate (key_at m) 0 sessions_max

-- the blocks of a set and those listed, where each of these is one, and none is there before
unfoldable pub claimed : ℕ → List ℕ → Option ℕ
claimed all [] = some all
claimed all (b ∷ bs) = pick (new_to all b) (claimed (including all b) bs) none

-- as the code tells it
abbrev pub told : Option ℕ → rust.Option ℕ
told none = None
told (some all) = Some all

abbrev pub is_all : Option ℕ → Bool
is_all none = false
is_all (some all) = eqb all 18446744073709551615

-- every block is free or in one session
unfoldable pub shares : List ℕ → Bool
shares m = is_all (claimed (free_of m) (used (places_of m)))
