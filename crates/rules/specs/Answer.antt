-- RULES 13.1, 4.6 and 4.10: the answers of a reception.
use Rattle.std.specs.Prelude.{List, [], ℕ}
use Rattle.rules.specs.Frame.{Stream}

-- why a frame is passed over (RULES 4.6)
pub data Reason : Type 0 where
  no_transfer : Reason  -- no start, and no transfer is in hand
  wrong_toggle : Reason
  wrong_transfer : Reason  -- the transfer ID is not the expected one
  repeated_start : Reason  -- a start of the transfer that is in hand
  other_interface : Reason  -- the session follows another interface

-- the number of each
abbrev pub reason_number : Reason → ℕ
reason_number no_transfer = 30
reason_number wrong_toggle = 31
reason_number wrong_transfer = 32
reason_number repeated_start = 33
reason_number other_interface = 34

pub data Answer : Type 0 where
  taken : Answer
  -- RULES 4.10: the payload, the stream, the closing frame's priority and transfer ID
  handed : List ℕ → Stream → ℕ → ℕ → Answer
  -- by one of the frame checks (RULES 4.1), with its number
  refused : ℕ → Answer
  full : Answer
  passed : Reason → Answer
  long : Answer
  no_block : Answer  -- no block is free (RULES 4.12)
  differs : Answer

abbrev pub number_of : Answer → ℕ
number_of taken = 0
number_of (handed p s prio t) = 1
number_of (refused n) = n
number_of full = 9
number_of (passed r) = reason_number r
number_of long = 11
number_of no_block = 26
number_of differs = 12

-- f of what is handed out, or else a
abbrev pub handed_or {ℓ} : {A : Type ℓ} → A → (List ℕ → Stream → ℕ → ℕ → A) → Answer → A
handed_or a f taken = a
handed_or a f (handed p d priority t) = f p d priority t
handed_or a f (refused n) = a
handed_or a f full = a
handed_or a f (passed r) = a
handed_or a f long = a
handed_or a f no_block = a
handed_or a f differs = a

-- the payload that is handed out, or none
abbrev pub handed_payload : Answer → List ℕ
handed_payload a = handed_or [] (λ p d priority t. p) a
