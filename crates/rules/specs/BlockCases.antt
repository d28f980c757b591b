-- RULES 15.7: cases of the blocks (4.12). The numbers answered to a list, and the table after it.
use Rattle.std.specs.Prelude.{◌≡◌, true, false, List, [], ◌∷◌, ◌++◌, map, ℕ, zero, suc, ◌+◌, ◌*◌, get_or, replicate}
use Rattle.rules.specs.Answer.{number_of}
use Rattle.rules.specs.Blocks.{used}
use Rattle.rules.specs.Check.{Reception}
use Rattle.rules.specs.Example.{setup, message, stream, one, two, three, received, crowd}
use Rattle.rules.specs.Frame.{Stream}
use Rattle.rules.specs.Reception.{after, run}
use Rattle.rules.specs.Session.{waiting}
use Rattle.rules.specs.Sound.{sound}
use Rattle.rules.specs.Table.{Place, empty, held, Places, begun}
use Rattle.rules.specs.WhyPremises.{eight, hoard}

abbrev pub numbers : Places → List Reception → List ℕ
numbers ps l = map number_of (run setup ps l)

-- eight sessions begun at 9,000,000 have all blocks
abbrev pub spent : Places
spent = replicate 24 empty ++ hoard 8

-- the stream has 512 bytes in hand and eight blocks; n others have eight blocks each
abbrev pub large : ℕ → ℕ → Places
large n places =
    held stream (record { expected = 5; gathered = replicate 512 0; toggle = false; since = 9000000; follows = 0 }) (eight 56) ∷
    replicate places empty ++ hoard n

-- all places are held and all blocks used; one session is old, with the last eight
abbrev pub one_old : Places
one_old =
    held (message 90) (record { expected = 5; gathered = replicate 512 0; toggle = true; since = 0; follows = 0 }) (eight 56) ∷
    hoard 7 ++ crowd 9000000 24

-- n sessions with 514 bytes in hand, and so nine blocks each; the stream has 64 bytes in block 63
unfoldable pub pile : ℕ → Places
pile zero = []
pile (suc n) =
    held (message (100 + n)) (record { expected = 5; gathered = replicate 514 0; toggle = true; since = 9000000; follows = 0 }) (9 * n ∷ eight (9 * n + 1)) ∷ pile n

abbrev pub among : ℕ → ℕ → Places
among n places =
    held stream (record { expected = 5; gathered = replicate 64 0; toggle = false; since = 9000000; follows = 0 }) (63 ∷ []) ∷
    replicate places empty ++ pile n

-- seven bytes in hand
abbrev pub begun_by : Stream → List ℕ → Place
begun_by d bs = held d (record { expected = 5; gathered = replicate 7 0; toggle = true; since = 0; follows = 0 }) bs

-- the stream's session, with the blocks bs, and another that has nothing in hand
abbrev pub couple : List ℕ → List ℕ → Places
couple bs cs = begun_by stream bs ∷ held (message 90) (waiting 5 0 0) cs ∷ replicate 30 empty

-- two sessions with seven bytes each, one in block 0, the other in b
abbrev pub sharing : ℕ → Places
sharing b = begun_by stream (0 ∷ []) ∷ begun_by (message 90) (b ∷ []) ∷ replicate 30 empty

pub record BlockCases : Type 0 where
  -- the tables of these cases have no fault
  pub faultless : (sound spent ≡ true) × (sound (large 7 24) ≡ true) × (sound (large 6 25) ≡ true) × (sound one_old ≡ true)
  -- a block too few, too many, in two sessions, or of too large a number
  pub faults : (sound (couple (63 ∷ []) []) ≡ true) × (sound (couple [] []) ≡ false) × (sound (couple (0 ∷ []) (1 ∷ [])) ≡ false)
      × (sound (sharing 1) ≡ true) × (sound (sharing 0) ≡ false) × (sound (couple (64 ∷ []) []) ≡ false)
  -- the lowest free block
  pub lowest : used (after setup (replicate 31 empty ++ hoard 1) (received one 10000000 ∷ [])) ≡ 8 ∷ eight 0
  -- a start answered 26 keeps its place and sets its time; a repeat of it is 32
  pub none : numbers spent (received one 10000000 ∷ received one 10000001 ∷ received two 10000002 ∷ []) ≡ 26 ∷ 32 ∷ 30 ∷ []
  pub place : get_or (after setup spent (received one 10000000 ∷ [])) 0 empty ≡ held stream (waiting 6 10000000 0) []
  pub time : get_or (after setup (held stream (waiting 5 9500000 0) [] ∷ replicate 23 empty ++ hoard 8) (received one 10000000 ∷ [])) 0 empty
      ≡ held stream (waiting 6 10000000 0) []
  -- a single frame takes none
  pub single : numbers spent (received (1 ∷ 0xC5 ∷ []) 10000000 ∷ []) ≡ 1 ∷ []
  -- when no block is free, all old sessions with bytes in hand are emptied, left as after 11
  pub not_old : numbers spent (received one 11000000 ∷ []) ≡ 26 ∷ []
  pub emptied : numbers spent (received one 11000001 ∷ []) ≡ 0 ∷ []
  pub left :
      (used (after setup spent (received one 11000001 ∷ [])) ≡ 0 ∷ [])
      × (get_or (after setup spent (received one 11000001 ∷ [])) 31 empty ≡ held (message 100) (waiting 6 9000000 0) [])
  -- 11 comes before 26, and 26 before 12
  pub order :
      (numbers (large 7 24) (received (1 ∷ 2 ∷ 3 ∷ 0x45 ∷ []) 10000000 ∷ []) ≡ 11 ∷ [])
      × (numbers (large 7 24) (received (1 ∷ 2 ∷ 0x45 ∷ []) 10000000 ∷ []) ≡ 26 ∷ [])
      × (numbers (large 6 25) (received (1 ∷ 2 ∷ 0x45 ∷ []) 10000000 ∷ []) ≡ 12 ∷ [])
  -- an eighth transfer may find no block (RULES 4.13); a seventh does
  pub eighth : (sound (among 7 24) ≡ true) × (numbers (among 7 24) (received (1 ∷ 2 ∷ 3 ∷ 4 ∷ 5 ∷ 6 ∷ 7 ∷ 0x05 ∷ []) 10000000 ∷ []) ≡ 26 ∷ [])
      × (numbers (among 6 25) (received (1 ∷ 2 ∷ 3 ∷ 4 ∷ 5 ∷ 6 ∷ 7 ∷ 0x05 ∷ []) 10000000 ∷ []) ≡ 0 ∷ [])
  -- all are given back at 11, 26, 12 and 1
  pub closed :
      (used (after setup (large 7 24) (received (1 ∷ 2 ∷ 3 ∷ 0x45 ∷ []) 10000000 ∷ [])) ≡ used (hoard 7))
      × (used (after setup (large 7 24) (received (1 ∷ 2 ∷ 0x45 ∷ []) 10000000 ∷ [])) ≡ used (hoard 7))
      × (used (after setup (large 6 25) (received (1 ∷ 2 ∷ 0x45 ∷ []) 10000000 ∷ [])) ≡ used (hoard 6))
      × (used (after setup begun (received one 10000000 ∷ received two 10000000 ∷ received three 10000000 ∷ [])) ≡ [])
  -- and at a restart, before the frame takes one
  pub restarted : used (after setup (large 6 25) (received (1 ∷ 2 ∷ 3 ∷ 4 ∷ 5 ∷ 6 ∷ 7 ∷ 0x89 ∷ []) 10000000 ∷ [])) ≡ 48 ∷ used (hoard 6)
  -- the blocks of a session that loses its place are free before the new session takes one, so that no other is emptied
  pub replaced :
      (numbers one_old (received one 10000000 ∷ []) ≡ 0 ∷ []) × (used (after setup one_old (received one 10000000 ∷ [])) ≡ 56 ∷ used (hoard 7))
