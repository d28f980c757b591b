-- RULES 4.3, 4.4: what a scan of the places looks for.
use Rattle.std.specs.Prelude.{Bool, not, ◌&&◌, List, ℕ, ◌-◌, ltb, eqb}
use Rattle.rules.specs.Limits.{old_age}
use Rattle.sessions.specs.declared.scan.Want.{Want}
use Rattle.sessions.specs.declared.scan.Want.TheVariants.{Key, Old}
use Rattle.state.specs.Layout.{key_at, count_at, time_at}

-- place i holds a session that is old at the time t
abbrev pub old_at : List ℕ → ℕ → ℕ → Bool
old_at m t i = not (eqb (key_at m i) 0) && ltb old_age (t - time_at m i)

-- and has bytes in hand
abbrev pub stale_at : List ℕ → ℕ → ℕ → Bool
stale_at m t i = old_at m t i && ltb 0 (count_at m i)

-- the place has this key, 0 for an empty place; or holds a session that is old at this time
unfoldable pub fits_at : List ℕ → Want → ℕ → Bool
fits_at m (Key k) i = eqb (key_at m i) k
fits_at m (Old t) i = old_at m t i
