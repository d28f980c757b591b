-- RULES 16.1, 16.4, 16.5: the limits of an allocator by name; src/limits.rt has the same for the code.
use Rattle.std.specs.Prelude.{ℕ}

-- the bytes of a unique ID, and those of it in a request
abbrev pub unique_id_max : ℕ
unique_id_max = 16

abbrev pub stage_max : ℕ
stage_max = 6

-- the largest node ID that is given, which is also the number of entries that there can be
abbrev pub node_max : ℕ
node_max = 125

-- the age above which what is gathered is dropped
abbrev pub followup_timeout : ℕ
followup_timeout = 500000
