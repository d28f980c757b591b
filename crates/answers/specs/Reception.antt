-- RULES 13.1, 4.10: the answers of a reception. The number of each case, the values of answer 1, and the rules' answer as the code tells it.
use Rattle.std.specs.Prelude.{List, ℕ, length}
use Rattle.bits.specs.Part.{splice}
use Rattle.answers.specs.declared.Answer.{Answer}
use Rattle.answers.specs.declared.Answer.TheVariants.{Taken, Handed, Refused, Full, Passed, TooLong, NoBlock, BadChecksum, Faulty}
use Rattle.answers.specs.declared.Reason.{Reason}
use Rattle.answers.specs.declared.Reason.TheVariants.{NoTransfer, WrongToggle, WrongTransfer, RepeatedStart, OtherInterface}
use Rattle.answers.specs.declared.Transfer.{Transfer}
use Rattle.rules.specs.Answer as rules
use Rattle.rules.specs.Frame.{Stream}

-- why a frame is passed over (RULES 4.6)
abbrev pub reason_number : Reason → ℕ
reason_number NoTransfer = 30
reason_number WrongToggle = 31
reason_number WrongTransfer = 32
reason_number RepeatedStart = 33
reason_number OtherInterface = 34

abbrev pub number_of : Answer → ℕ
number_of Taken = 0
number_of (Handed t) = 1
number_of (Refused n) = n
number_of Full = 9
number_of (Passed r) = reason_number r
number_of TooLong = 11
number_of NoBlock = 26
number_of BadChecksum = 12
number_of Faulty = 20

-- nothing handed out: every value 0
abbrev pub no_transfer : Transfer
no_transfer = record { len = 0; transfer_type = 0; type_id = 0; source = 0; destination = 0; priority = 0; transfer = 0 }

-- the transfer that is handed out (RULES 4.10)
abbrev pub transfer_in : Answer → Transfer
transfer_in Taken = no_transfer
transfer_in (Handed t) = t
transfer_in (Refused n) = no_transfer
transfer_in Full = no_transfer
transfer_in (Passed r) = no_transfer
transfer_in TooLong = no_transfer
transfer_in NoBlock = no_transfer
transfer_in BadChecksum = no_transfer
transfer_in Faulty = no_transfer

-- of a payload of n bytes
abbrev pub transfer_of : ℕ → Stream → ℕ → ℕ → Transfer
transfer_of n d priority transfer =
    record {
      len = n;
      transfer_type = d.transfer_type;
      type_id = d.type;
      source = d.source;
      destination = d.destination;
      priority = priority;
      transfer = transfer;
    }

abbrev pub told_reason : rules.Reason → Reason
told_reason rules.no_transfer = NoTransfer
told_reason rules.wrong_toggle = WrongToggle
told_reason rules.wrong_transfer = WrongTransfer
told_reason rules.repeated_start = RepeatedStart
told_reason rules.other_interface = OtherInterface

-- the rules' answer as the code tells it: of a payload its length, the bytes are in the output buffer
abbrev pub told : rules.Answer → Answer
told rules.taken = Taken
told (rules.handed p d priority t) = Handed (transfer_of (length p) d priority t)
told (rules.refused n) = Refused n
told rules.full = Full
told (rules.passed r) = Passed (told_reason r)
told rules.long = TooLong
told rules.no_block = NoBlock
told rules.differs = BadChecksum

-- the output buffer after it: the payload that is handed out at the front
abbrev pub out_after : rules.Answer → List ℕ → List ℕ
out_after a out = splice out 0 (rules.handed_payload a)
