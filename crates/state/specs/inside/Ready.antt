-- RULES 5.4: what the functions after the checks need of a state.
use Rattle.std.specs.Prelude.{◌≡◌, true, List, [], ◌∷◌, ℕ, ◌≤◌, ◌<◌, length}
use Rattle.bits.specs.Tabulate.{every}
use Rattle.rules.specs.Blocks.{used}
use Rattle.rules.specs.Limits.{sessions_max, blocks_max}
use Rattle.rules.specs.Sound.{places_fit, blocks_fit}
use Rattle.state.specs.Layout.{size, free_of, places_of}
use Rattle.state.specs.Place.{free_set}
use Rattle.state.specs.Sound.{raw_fits}

pub record Ready (m : List ℕ) : Type 0 where
  pub long : size ≤ length m
  pub raw : every (raw_fits m) 0 sessions_max ≡ true
  pub free : free_of m ≡ free_set (places_of m)
  pub fit : places_fit (places_of m) ≡ true
  pub blocks : blocks_fit (used (places_of m)) ≡ true

-- each number is that of a block
abbrev pub Small : List ℕ → Type 0
Small [] = Unit {0}
Small (b ∷ bs) = (b < blocks_max) × Small bs
