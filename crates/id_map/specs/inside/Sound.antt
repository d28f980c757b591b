-- RULES 8.5: the test for faults as the code goes, each place by itself, and then the keys of all.
use Rattle.std.specs.Prelude.{Bool, ◌&&◌, ◌||◌, List, ℕ, ltb, eqb}
use Rattle.bits.specs.Tabulate.{tabulate}
use Rattle.id_map.specs.Layout.{key_at, next_at, topic_of_key}
use Rattle.rules.specs.Limits.{entries_max}
use Rattle.rules.specs.Map.{topic_fits}

-- place i is empty, or its topic and its next transfer ID are in range
unfoldable pub empty_or_fits : List ℕ → ℕ → Bool
empty_or_fits m i = eqb (key_at m i) 0 || (topic_fits (topic_of_key (key_at m i)) && ltb (next_at m i) 32)

abbrev pub keys_of : List ℕ → List ℕ
keys_of m = tabulate (key_at m) 0 entries_max
