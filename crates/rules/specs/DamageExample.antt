-- RULES 14.19: a case that meets every premise of 14.16 and 14.17, and one with a bit too many, which is handed out. Both are the transfer of the example
-- of condition 3, altered across its first two frames.
use Rattle.std.specs.Prelude.{◌≡◌, List, [], ◌∷◌, map, ℕ, ◌+◌}
use Rattle.checksum.specs.Damage.{burst_max, Burst}
use Rattle.rules.specs.Answer.{number_of, handed}
use Rattle.rules.specs.Condition3.{Receiver, frames, answers, While, handouts, rules_table}
use Rattle.rules.specs.Damage.{Opens, Damaged, Caught}
use Rattle.rules.specs.Example.{setup, stream, payload, one, three, frame, received, copied, other, earlier}
use Rattle.rules.specs.Reception.{after}
use Rattle.rules.specs.Table.{begun}

-- a receiver that hears two frames a and b and the third of the example's, each repeated; by another interface the frames as they were sent
abbrev pub hearing : List ℕ → List ℕ → Receiver (rules_table setup)
hearing a b =
    record {
      state = after setup begun earlier;
      start = record { arrival = frame a 10000000; room = 512 };
      list =
          copied one 10000000 ∷
          received a 10000001 ∷
          received b 10001000 ∷
          copied three 10001000 ∷
          other 0x1001562A (0xC1 ∷ []) 10001000 ∷
          received b 10002000 ∷
          received three 10999999 ∷
          received three 11000000 ∷
          copied one 11000000 ∷ [];
    }

-- 16 altered bits: the fifth byte and the sixth
abbrev pub altered : List ℕ
altered = 0x00 ∷ 0x00 ∷ 0x34 ∷ 0x42 ∷ 0x8F ∷ 0x9E ∷ 0x6E ∷ 0x5F ∷ 0x61 ∷ 0x6E ∷ 0x67 ∷ 0x6C ∷ 0x65 ∷ []

abbrev pub damaged : Receiver (rules_table setup)
damaged =
    hearing (0xEB ∷ 0x4A ∷ 0x00 ∷ 0x00 ∷ 0x34 ∷ 0x42 ∷ 0x8F ∷ 0x85 ∷ [])
    (0x9E ∷ 0x6E ∷ 0x5F ∷ 0x61 ∷ 0x6E ∷ 0x67 ∷ 0x6C ∷ 0x25 ∷ [])

-- within 17 bits, the polynomial's pattern from the fifth byte to the seventh
abbrev pub unseen : List ℕ
unseen = 0x00 ∷ 0x00 ∷ 0x34 ∷ 0x42 ∷ 0x71 ∷ 0x71 ∷ 0x4F ∷ 0x5F ∷ 0x61 ∷ 0x6E ∷ 0x67 ∷ 0x6C ∷ 0x65 ∷ []

abbrev pub deceived : Receiver (rules_table setup)
deceived =
    hearing (0xEB ∷ 0x4A ∷ 0x00 ∷ 0x00 ∷ 0x34 ∷ 0x42 ∷ 0x71 ∷ 0x85 ∷ [])
    (0x71 ∷ 0x4F ∷ 0x5F ∷ 0x61 ∷ 0x6E ∷ 0x67 ∷ 0x6C ∷ 0x25 ∷ [])

pub record DamageExample : Type 0 where
  pub opens : Opens (rules_table setup) stream damaged
  pub arrives : Damaged setup stream damaged.start.arrival (frames (rules_table setup) stream damaged) 16 5 payload altered
  pub while : While (rules_table setup) stream 8 damaged
  pub caught : Caught (rules_table setup) stream damaged
  pub numbers : map number_of (answers (rules_table setup) stream damaged) ≡ 0 ∷ 34 ∷ 33 ∷ 0 ∷ 34 ∷ 31 ∷ 12 ∷ 30 ∷ 34 ∷ []
  -- one bit more, and the altered payload is handed out
  pub limit : Burst (burst_max + 1) payload unseen
      × (handouts (rules_table setup) (answers (rules_table setup) stream deceived) ≡ handed unseen stream 16 5 ∷ [])
