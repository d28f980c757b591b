-- RULES 13.3: the result word of a reception. The number in bits 0 to 7; with 1 the payload's length in 8 to 17, the transfer type in 18 and 19,
-- the type ID in 20 to 35, source in 36 to 42, destination in 43 to 49, priority in 50 to 54 and transfer ID in 55 to 59. All other bits are 0.
use Rattle.std.specs.Prelude.{ℕ, ◌+◌, ◌*◌, ◌^◌, ◌≤◌, ◌<◌}
use Rattle.answers.specs.Reception.{number_of, transfer_in}
use Rattle.answers.specs.declared.Answer.{Answer}
use Rattle.answers.specs.declared.Transfer.{Transfer}
use Rattle.rules.specs.Limits.{payload_max}

unfoldable pub transfer_word : Transfer → ℕ
transfer_word t =
    t.len * 2 ^ 8 + (t.transfer_type * 2 ^ 18 + (t.type_id * 2 ^ 20 + (t.source * 2 ^ 36
    + (t.destination * 2 ^ 43 + (t.priority * 2 ^ 50 + t.transfer * 2 ^ 55)))))

unfoldable pub word_of : Answer → ℕ
word_of a = number_of a + transfer_word (transfer_in a)

-- ── every answer fits (RULES 4.10): no field runs into the next ──

pub record TransferFits (t : Transfer) : Type 0 where
  pub len : t.len ≤ payload_max
  pub transfer_type : t.transfer_type < 3
  pub type : t.type_id < 65536
  pub source : t.source < 128
  pub destination : t.destination < 128
  pub priority : t.priority < 32
  pub transfer : t.transfer < 32

pub record Fits (a : Answer) : Type 0 where
  pub number : number_of a < 2 ^ 8
  pub transfer : TransferFits (transfer_in a)
