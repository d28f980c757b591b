-- RULES 8.4, 8.6: what holds of a map that was set up; `laws.rt` has a function whose contract it is.
use Rattle.std.specs.Prelude.{◌≡◌, true, List, ℕ, ◌≤◌, length}
use Rattle.id_map.specs.Layout.{size, map_of}
use Rattle.id_map.specs.Setup.{after_setup}
use Rattle.id_map.specs.Sound.{sound_map}
use Rattle.rules.specs.Map.{blank}

-- no entry and no fault, whatever was in the bytes
pub record SetupLaws : Type 0 where
  pub blank : (m : List ℕ) → size ≤ length m → map_of (after_setup m).map ≡ blank
  pub sound : (m : List ℕ) → size ≤ length m → sound_map (after_setup m).map ≡ true
