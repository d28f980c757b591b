-- RULES 15.6: cases of the rule for redundant interfaces (4.1, 4.5, 4.6). The numbers answered to a list from an empty table, and the session after one.
use Rattle.std.specs.Prelude.{◌≡◌, List, [], ◌∷◌, map, ℕ, ◌^◌, get_or}
use Rattle.rules.specs.Answer.{number_of}
use Rattle.rules.specs.Check.{Reception}
use Rattle.rules.specs.Example.{setup, stream, one, two, by, received, copied}
use Rattle.rules.specs.Reception.{after, run}
use Rattle.rules.specs.Session.{waiting}
use Rattle.rules.specs.Table.{empty, held, begun}

abbrev pub numbers : List Reception → List ℕ
numbers l = map number_of (run setup begun l)

-- a transfer of one frame
abbrev pub single : ℕ → List ℕ
single tail = 1 ∷ tail ∷ []

-- by an interface that there is not
abbrev pub fourth : ℕ → List ℕ → Reception
fourth id bytes = by 3 id bytes 10000000

pub record Interfaces : Type 0 where
  -- a start by the followed interface: by the distance to the expected ID, at any age
  pub followed :
      numbers (received (single 0xC4) 10000000 ∷ received (single 0xC4) 10000001 ∷ received (single 0xC6) 10000002 ∷ []) ≡ 1 ∷ 32 ∷ 1 ∷ []
  -- one that repeats the ID in hand is passed over at 1,000,000 after the start, and begins anew later
  pub repeated : numbers (received one 10000000 ∷ received one 11000000 ∷ received one 11000001 ∷ []) ≡ 0 ∷ 33 ∷ 0 ∷ []
  -- a start by another interface: the same, and from then on that one is followed
  pub switched :
      numbers (received one 10000000 ∷ copied one 11000000 ∷ copied one 11000001 ∷ received two 11000002 ∷ copied two 11000003 ∷ [])
      ≡ 0 ∷ 34 ∷ 0 ∷ 34 ∷ 0 ∷ []
  -- where 5 is expected 21 is 16 ahead, 4 is 31 ahead, and 20 is 15 ahead
  pub ahead :
      numbers (received (single 0xC4) 10000000 ∷ copied (single 0xD5) 11000001 ∷ copied (single 0xC4) 11000001 ∷ copied (single 0xD4) 11000001 ∷ [])
      ≡ 1 ∷ 34 ∷ 34 ∷ 1 ∷ []
  -- an old session that a frame which is no start restarts follows that frame's interface, so that the frame is passed over by 30, and keeps its time
  pub aged : numbers (received one 10000000 ∷ copied two 12000001 ∷ []) ≡ 0 ∷ 30 ∷ []
  pub aged_after : get_or (after setup begun (received one 10000000 ∷ copied two 12000001 ∷ [])) 0 empty ≡ held stream (waiting 6 10000000 1) []
  -- 19 comes right after 3
  pub order :
      numbers (fourth (2 ^ 29) one ∷ fourth 0x103FF22A [] ∷ fourth 0x10000080 one ∷ fourth 0x103FF22A (1 ∷ 0x85 ∷ []) ∷ fourth 0x103FF22A one ∷ [])
      ≡ 2 ∷ 3 ∷ 19 ∷ 19 ∷ 19 ∷ []
