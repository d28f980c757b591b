-- RULES 13.1, 21.3: the answers of an allocatee. The number of each, the length of what is sent, the wait, and the node ID.
use Rattle.std.specs.Prelude.{ℕ, Result, Ok, Err}
use Rattle.shape.specs.Answer as message
use Rattle.allocatee.specs.declared.answer.AllocateeError.{AllocateeError}
use Rattle.allocatee.specs.declared.answer.AllocateeError.TheVariants.{OutputSmall, NodeId, UniqueId, Message, Faulty}
use Rattle.allocatee.specs.declared.answer.Step.{Step}
use Rattle.allocatee.specs.declared.answer.Step.TheVariants.{Waits, Sends, Has}

abbrev pub Answer : Type 0
Answer = Result Step AllocateeError

abbrev pub number_of : Answer → ℕ
number_of (Ok s) = 0
number_of (Err OutputSmall) = 8
number_of (Err NodeId) = 13
number_of (Err UniqueId) = 17
number_of (Err (Message r)) = message.number_of r
number_of (Err Faulty) = 20

abbrev pub length_in : Answer → ℕ
length_in (Ok (Waits n)) = 0
length_in (Ok (Sends s)) = s.len
length_in (Ok (Has n)) = 0
length_in (Err e) = 0

abbrev pub wait_in : Answer → ℕ
wait_in (Ok (Waits n)) = n
wait_in (Ok (Sends s)) = s.wait
wait_in (Ok (Has n)) = 0
wait_in (Err e) = 0

abbrev pub node_in : Answer → ℕ
node_in (Ok (Waits n)) = 0
node_in (Ok (Sends s)) = 0
node_in (Ok (Has n)) = n
node_in (Err e) = 0
