-- RULES 4.12: the bytes in hand lie in 64 blocks of 64 bytes, which all sessions share.
use Rattle.std.specs.Prelude.{Bool, false, not, ◌&&◌, List, [], ◌∷◌, ◌++◌, map, ℕ, zero, suc, ◌+◌, ◌-◌, ◌/◌, ltb, leb, eqb, length, take}
use Rattle.std.proofs.Math.Option.{Option, none, some}
use Rattle.rules.specs.Answer.{Reason}
use Rattle.rules.specs.Check.{Parsed}
use Rattle.rules.specs.Limits.{blocks_max, block_size, gathered_max}
use Rattle.rules.specs.Session.{Session, old, closed, over}
use Rattle.rules.specs.Table.{Place, empty, held, Places}
use Rattle.rules.specs.Tests.{pick, is_empty, is_none}

-- how many blocks n bytes need
abbrev pub need : ℕ → ℕ
need n = (n + (block_size - 1)) / block_size

-- of the blocks that a session has, those that its bytes need: none, where nothing is in hand
abbrev pub keeps : Session → List ℕ → List ℕ
keeps s bs = take (need (length s.gathered)) bs

-- ── free blocks ──

abbrev pub blocks_in : Place → List ℕ
blocks_in empty = []
blocks_in (held d s bs) = bs

-- the blocks of all sessions
unfoldable pub used : Places → List ℕ
used [] = []
used (p ∷ ps) = blocks_in p ++ used ps

-- how often a number is in a list
unfoldable pub times : ℕ → List ℕ → ℕ
times b [] = 0
times b (c ∷ l) = pick (eqb b c) (suc (times b l)) (times b l)

-- the lowest of n numbers from b on that is not in a list
unfoldable pub lowest : ℕ → ℕ → List ℕ → Option ℕ
lowest zero b l = none
lowest (suc n) b l = pick (eqb (times b l) 0) (some b) (lowest n (suc b) l)

unfoldable pub free_block : Places → Option ℕ
free_block ps = lowest blocks_max 0 (used ps)

-- ── where none is free ──

-- old at time t, with bytes in hand
abbrev pub stale : ℕ → Session → Bool
stale t s = old t s && not (is_empty s.gathered)

-- such a session is left as after 11; its time stays
abbrev pub relieved : ℕ → Place → Place
relieved t empty = empty
relieved t (held d s bs) = pick (stale t s) (held d (closed s s.since) []) (held d s bs)

-- the table that a block is taken from: where none is free, all old sessions with bytes in hand are emptied first
unfoldable pub cleared : ℕ → Places → Places
cleared t ps = pick (is_none (free_block ps)) (map (relieved t) ps) ps

-- ── does a frame ask for a block ──

-- one that is passed over does not, nor one that makes the bytes too many (11 comes before 26), nor a single frame
abbrev pub asks_if : Option Reason → Session → List ℕ → Parsed → Bool
asks_if (some r) s bs v = false
asks_if none s bs v =
    leb (length (s.gathered ++ v.payload)) gathered_max
    && (not (v.start && v.last) && ltb (length bs) (need (length (s.gathered ++ v.payload))))

-- the session s has the blocks bs
unfoldable pub asks : Session → List ℕ → Parsed → Bool
asks s bs v = asks_if (over s v) s bs v
