-- RULES 16.4, 16.5, 16.7: the stages of a unique ID, the follow-up timeout, and the preferred node ID.
use Rattle.std.specs.Prelude.{Bool, ◌&&◌, ◌||◌, List, ◌++◌, ℕ, ◌+◌, ◌-◌, eqb, ltb, leb}
use Rattle.bits.specs.Part.{span}
use Rattle.rules.specs.Tests.{pick}
use Rattle.allocator_table.specs.Layout.{gathered_at, gathered_count, time_of}
use Rattle.allocator_table.specs.Limits.{unique_id_max, stage_max, node_max, followup_timeout}

-- RULES 16.5: the stage of a message, by its first part and the length of its unique ID; 0 for none
unfoldable pub stage_of : ℕ → ℕ → ℕ
stage_of first n =
    pick (eqb n stage_max || (eqb n (unique_id_max - stage_max - stage_max) || eqb n unique_id_max))
    (pick (eqb first 1) 1 (pick (eqb n stage_max) 2 (pick (ltb n stage_max) 3 0))) 0

-- the stage that is expected after n gathered bytes; 0 for none
unfoldable pub expected_at : ℕ → ℕ
expected_at n = pick (eqb n 0) 1 (pick (leb (stage_max + stage_max) n) 3 (pick (leb stage_max n) 2 0))

-- a message's unique ID, k bytes, is the one expected after n gathered bytes
unfoldable pub accepts : ℕ → ℕ → ℕ → Bool
accepts first k n = ltb 0 (stage_of first k) && (eqb (stage_of first k) (expected_at n) && leb (n + k) unique_id_max)

-- RULES 16.4: the number of bytes that are still gathered at the time t
unfoldable pub kept_at : List ℕ → ℕ → ℕ
kept_at m t = pick (ltb followup_timeout (t - time_of m)) 0 (gathered_count m)

-- RULES 16.6: these, and a message's
unfoldable pub joined : List ℕ → ℕ → List ℕ → List ℕ
joined m t u = span m gathered_at (kept_at m t) ++ u

-- RULES 16.7: 0, 126 and 127 count as 125
unfoldable pub preferred : ℕ → ℕ
preferred p = pick (eqb p 0 || ltb node_max p) node_max p
