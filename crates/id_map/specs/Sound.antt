-- RULES 8.5: a lent map without a fault.
use Rattle.std.specs.Prelude.{Bool, ◌&&◌, List, ℕ, leb, length}
use Rattle.id_map.specs.Layout.{size, map_of}
use Rattle.rules.specs.Map.{sound}

unfoldable pub sound_map : List ℕ → Bool
sound_map m = leb size (length m) && sound (map_of m)
