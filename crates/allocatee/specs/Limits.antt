-- RULES 21.1, 21.2, 21.4: the limits of an allocatee by name; src/limits.rt has the same for the code.
use Rattle.std.specs.Prelude.{ℕ, ◌+◌}

-- the bytes of a unique ID, those of it in a request, and the bytes of a request
abbrev pub unique_id_max : ℕ
unique_id_max = 16

abbrev pub stage_max : ℕ
stage_max = 6

abbrev pub request_max : ℕ
request_max = stage_max + 1

-- the largest node ID
abbrev pub node_max : ℕ
node_max = 127

-- the shortest request period, and how many there are from it on; as many follow-up delays from 0 on
abbrev pub period_min : ℕ
period_min = 600000

abbrev pub spread : ℕ
spread = 400001
