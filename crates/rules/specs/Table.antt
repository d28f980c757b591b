-- RULES 4.3: the table of 32 places, and the place that a frame's session has or gets.
use Rattle.std.specs.Prelude.{Bool, true, false, List, [], ◌∷◌, ℕ, suc, replicate}
use Rattle.std.proofs.Math.Option.{Option, none, some}
use Rattle.rules.specs.Frame.{Stream, same_stream}
use Rattle.rules.specs.Limits.{sessions_max}
use Rattle.rules.specs.Session.{Session, old}
use Rattle.rules.specs.Tests.{pick}

pub data Place : Type 0 where
  empty : Place
  -- a stream, its session, and the numbers of the session's blocks in the order taken (RULES 4.12)
  held : Stream → Session → List ℕ → Place

abbrev pub Places : Type 0
Places = List Place

-- after setup (RULES 3.5)
abbrev pub begun : Places
begun = replicate sessions_max empty

abbrev pub plus1 : Option ℕ → Option ℕ
plus1 none = none
plus1 (some i) = some (suc i)

-- the lowest place of a list that passes a test
unfoldable pub seek : {A : Type 0} → (A → Bool) → List A → Option ℕ
seek t [] = none
seek t (p ∷ ps) = pick (t p) (some 0) (plus1 (seek t ps))

abbrev pub holds : Stream → Place → Bool
holds d empty = false
holds d (held e s bs) = same_stream e d

abbrev pub is_free : Place → Bool
is_free empty = true
is_free (held e s bs) = false

abbrev pub is_old : ℕ → Place → Bool
is_old t empty = false
is_old t (held e s bs) = old t s

abbrev pub or_else : Option ℕ → Option ℕ → Option ℕ
or_else (some i) o = some i
or_else none o = o

-- for a new session: the lowest empty place, else the lowest old session's
unfoldable pub place_for : ℕ → Places → Option ℕ
place_for t ps = or_else (seek is_free ps) (seek (is_old t) ps)
