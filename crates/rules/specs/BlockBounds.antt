-- RULES 4.13: when there is a block. What the sessions have in hand decides, not which blocks they have.
use Rattle.std.specs.Prelude.{◌≡◌, Bool, true, not, ◌&&◌, ◌||◌, List, [], ◌∷◌, ℕ, ◌+◌, ◌*◌, ◌≤◌, ◌<◌, ltb, leb, eqb, length}
use Rattle.rules.specs.Answer.{no_block, number_of}
use Rattle.rules.specs.Blocks.{need}
use Rattle.rules.specs.Check.{Reception}
use Rattle.rules.specs.Condition3.{All}
use Rattle.rules.specs.Frame.{Stream, stream_of, tail_of, payload_of, is_start}
use Rattle.rules.specs.Limits.{blocks_max, sessions_max}
use Rattle.rules.specs.Reception.{step, run}
use Rattle.rules.specs.Setup.{Setup}
use Rattle.rules.specs.Sound.{sound}
use Rattle.rules.specs.Table.{Place, empty, held, Places, holds, is_old}
use Rattle.rules.specs.Tests.{pick}

-- ── what is in hand ──

abbrev pub bytes_in : Place → ℕ
bytes_in empty = 0
bytes_in (held d s bs) = length s.gathered

-- the sum over a table
unfoldable pub total : (Place → ℕ) → Places → ℕ
total f [] = 0
total f (p ∷ ps) = f p + total f ps

-- a session of another stream than d that is not old at time t
abbrev pub rival : Stream → ℕ → Place → Bool
rival d t p = not (holds d p) && not (is_old t p)

-- the blocks that it needs, and 1 if it has bytes in hand
abbrev pub rival_need : Stream → ℕ → Place → ℕ
rival_need d t p = pick (rival d t p) (need (bytes_in p)) 0

abbrev pub busy : Stream → ℕ → Place → ℕ
busy d t p = pick (rival d t p && ltb 0 (bytes_in p)) 1 0

-- the bytes in hand for a stream
abbrev pub in_hand : Stream → Places → ℕ
in_hand d ps = total (λ p. pick (holds d p) (bytes_in p) 0) ps

-- the bytes that a frame's session has with it, if it is let in (RULES 4.7), and the blocks that these need: a start is let in where nothing is in hand
abbrev pub bytes_with : Places → Reception → ℕ
bytes_with ps r =
    pick (is_start (tail_of r.arrival.frame.bytes)) 0 (in_hand (stream_of r.arrival.frame.id) ps) + length (payload_of r.arrival.frame.bytes)

abbrev pub own_need : Places → Reception → ℕ
own_need ps r = need (bytes_with ps r)

-- the blocks that the sessions of others need which are not old at the frame's time, and how many of them have bytes in hand
abbrev pub others_need : Places → Reception → ℕ
others_need ps r = total (rival_need (stream_of r.arrival.frame.id) r.arrival.frame.time) ps

abbrev pub others : Places → Reception → ℕ
others ps r = total (busy (stream_of r.arrival.frame.id) r.arrival.frame.time) ps

-- no session of a table needs more than k blocks
abbrev pub small : ℕ → Places → Bool
small k [] = true
small k (p ∷ ps) = leb (need (bytes_in p)) k && small k ps

-- the answers to a frame that is let in
abbrev pub let_in : ℕ → Bool
let_in n = leb n 1 || (eqb n 11 || (eqb n 12 || eqb n 26))

-- no frame of a list that is let in makes its session need more
abbrev pub modest : ℕ → Setup → Places → List Reception → Bool
modest k u ps [] = true
modest k u ps (r ∷ rs) = (not (let_in (number_of (step u ps r).answer)) || leb (own_need ps r) k) && modest k u (step u ps r).places rs

-- ── the bounds ──

abbrev pub Blocked : Setup → Places → Reception → Type 0
Blocked u ps r = (step u ps r).answer ≡ no_block

pub record BlockBounds : Type 0 where
  -- 26 means that the frame's session with it and the sessions of others that are not old need more than the 64 blocks
  pub want : (u : Setup) (ps : Places) (r : Reception) → sound ps ≡ true → Blocked u ps r → blocks_max < others_need ps r + own_need ps r
  -- so there is a block where at most six other sessions that are not old have bytes in hand
  pub few : (u : Setup) (ps : Places) (r : Reception) → sound ps ≡ true → others ps r ≤ 6 → Blocked u ps r → ⊥
  -- or where each needs at most k blocks and they are not too many for that
  pub alike : (k : ℕ) (u : Setup) (ps : Places) (r : Reception) → sound ps ≡ true → small k ps ≡ true → own_need ps r ≤ k
      → (others ps r + 1) * k ≤ blocks_max → Blocked u ps r → ⊥
  -- and always, where no session ever needs more than two blocks: 128 bytes, 126 without the checksum
  pub ever : (k : ℕ) → sessions_max * k ≤ blocks_max → (u : Setup) (ps : Places) (l : List Reception) → sound ps ≡ true → small k ps ≡ true
      → modest k u ps l ≡ true → All (λ a. a ≡ no_block → ⊥) (run u ps l)
