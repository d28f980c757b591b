-- RULES 14.15: a case that meets every premise of condition 3. Two receivers hear a transfer of three frames, each repeated, with copies by another interface, and
-- nothing else alike.
use Rattle.std.specs.Prelude.{◌≡◌, true, false, List, [], ◌∷◌, ℕ, zero, suc, ◌^◌, take}
use Rattle.rules.specs.Answer.{handed}
use Rattle.rules.specs.Check.{Reception}
use Rattle.rules.specs.Condition3.{Receiver, frames, answers, Premises, While, Transfer, handouts, rules_table}
use Rattle.rules.specs.Frame.{Arrival, Stream}
use Rattle.rules.specs.Reception.{after}
use Rattle.rules.specs.Sent.{arrival_at}
use Rattle.rules.specs.Setup.{Setup}
use Rattle.rules.specs.Table.{held, Places, begun}

-- ── the stream ──

-- three types of message, any signatures
abbrev pub setup : Setup
setup =
    record {
      own = 1;
      subscriptions =
          record { kind = 0; type = 1; signature = 7 } ∷
          record { kind = 0; type = 341; signature = 2 ^ 63 } ∷
          record { kind = 0; type = 16370; signature = 0x0123456789ABCDEF } ∷ [];
    }

-- the third, from a source
abbrev pub message : ℕ → Stream
message source = record { transfer_type = 0; type = 16370; source = source; destination = 0 }

abbrev pub stream : Stream
stream = message 42

-- 13 bytes (RULES 15.4): with the checksum three frames
abbrev pub payload : List ℕ
payload = 0x00 ∷ 0x00 ∷ 0x34 ∷ 0x42 ∷ 0x70 ∷ 0x61 ∷ 0x6E ∷ 0x5F ∷ 0x61 ∷ 0x6E ∷ 0x67 ∷ 0x6C ∷ 0x65 ∷ []

-- its frames with transfer ID 5
abbrev pub one : List ℕ
one = 0xEB ∷ 0x4A ∷ 0x00 ∷ 0x00 ∷ 0x34 ∷ 0x42 ∷ 0x70 ∷ 0x85 ∷ []

abbrev pub two : List ℕ
two = 0x61 ∷ 0x6E ∷ 0x5F ∷ 0x61 ∷ 0x6E ∷ 0x67 ∷ 0x6C ∷ 0x25 ∷ []

abbrev pub three : List ℕ
three = 0x65 ∷ 0x45 ∷ []

-- a frame by an interface
abbrev pub by : ℕ → ℕ → List ℕ → ℕ → Reception
by i id bytes time = record { arrival = arrival_at i id bytes time; room = 512 }

-- a frame of the stream, with priority 16, by interface 0
abbrev pub frame : List ℕ → ℕ → Arrival
frame bytes time = arrival_at 0 0x103FF22A bytes time

abbrev pub received : List ℕ → ℕ → Reception
received bytes time = by 0 0x103FF22A bytes time

-- the same by interface 1
abbrev pub copied : List ℕ → ℕ → Reception
copied bytes time = by 1 0x103FF22A bytes time

abbrev pub other : ℕ → List ℕ → ℕ → Reception
other id bytes time = by 0 id bytes time

abbrev pub start : Arrival
start = frame one 10000000

-- ── two receivers ──

-- n sessions of such messages from the sources n to 1, with nothing in hand, begun at a time
unfoldable pub crowd : ℕ → ℕ → Places
crowd since zero = []
crowd since (suc n) = held (message (suc n)) (record { expected = 5; gathered = []; toggle = false; since = since; follows = 0 }) [] ∷ crowd since n

-- One has heard a whole single frame, its repeat and a bad one; then the stream's last transfer, and a copy of the start by the other interface, which is
-- passed over. Between the stream's frames it hears a frame of too large an ID, another stream's start, a type with no subscription, an anonymous
-- frame and one with no data.
abbrev pub earlier : List Reception
earlier =
    other 0x1001552A (1 ∷ 0 ∷ 0 ∷ 0 ∷ 0 ∷ 0 ∷ 0 ∷ 0xC0 ∷ []) 1000000 ∷
    other 0x1001552A (1 ∷ 0 ∷ 0 ∷ 0 ∷ 0 ∷ 0 ∷ 0 ∷ 0xC0 ∷ []) 1001000 ∷
    other 0x1001552A (1 ∷ 0x81 ∷ []) 3000000 ∷
    received (1 ∷ 0xC4 ∷ []) 9500000 ∷
    copied one 9999999 ∷ []

abbrev pub spacious : Receiver (rules_table setup)
spacious =
    record {
      state = after setup begun earlier;
      start = record { arrival = start; room = 512 };
      list =
          other 0x303FF22A two 10000000 ∷
          copied one 10000000 ∷
          received one 10000001 ∷
          by 1 0x103FF22B one 10000500 ∷
          received two 10001000 ∷
          copied three 10001000 ∷
          other 0x1001562A (0xC1 ∷ []) 10001000 ∷
          received two 10002000 ∷
          received three 10999999 ∷
          other 0x10000100 (1 ∷ 0xC1 ∷ []) 11000000 ∷
          received three 11000000 ∷
          copied one 11000000 ∷
          other 0x103FF22B [] 11000000 ∷ [];
    }

-- The other was lent a table with all places held, a broken transfer of the stream among them. Between it hears a start that is refused for the full table,
-- one that takes an old session's place, and a single frame; after the stream's last frame time runs back.
abbrev pub crowded : Receiver (rules_table setup)
crowded =
    record {
      state = held stream (record { expected = 5; gathered = 1 ∷ 2 ∷ 3 ∷ []; toggle = true; since = 7999999; follows = 1 }) (9 ∷ []) ∷ crowd 8500000 31;
      start = record { arrival = start; room = 600 };
      list =
          copied one 10000000 ∷
          received one 10000001 ∷
          received two 10001000 ∷
          copied three 10001000 ∷
          other 0x103FF22B one 10001500 ∷
          received two 10002000 ∷
          other 0x103FF22B one 10600000 ∷
          received three 10999999 ∷
          other 0x1001552A (0xC0 ∷ []) 10999999 ∷
          received three 11000000 ∷
          copied one 11000000 ∷
          other 0x1001552A (0xC1 ∷ []) 1000000 ∷ [];
    }

-- ── the premises hold, and so does the claim ──

pub record Example : Type 0 where
  pub premises : Premises (rules_table setup) stream spacious crowded
  pub whiles : While (rules_table setup) stream 8 spacious × While (rules_table setup) stream 8 crowded
  pub transfer : Transfer setup stream start (frames (rules_table setup) stream spacious) 16 5 payload
  pub alike : take 9 (answers (rules_table setup) stream spacious) ≡ take 9 (answers (rules_table setup) stream crowded)
  pub delivered :
      (handouts (rules_table setup) (answers (rules_table setup) stream spacious) ≡ handed payload stream 16 5 ∷ [])
      × (handouts (rules_table setup) (answers (rules_table setup) stream crowded) ≡ handed payload stream 16 5 ∷ [])
