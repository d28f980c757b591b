-- RULES 16.12: the dialog of 15.3, as facts of the definitions. `laws.rt` has a function whose contract they are.
use Rattle.std.specs.Prelude.{◌≡◌, List, [], ◌∷◌, ◌++◌, ℕ, ◌*◌, ◌-◌, ◌^◌, take, drop, replicate, Some, None, Ok, Err}
use Rattle.bits.specs.Little.{le}
use Rattle.bits.specs.Part.{span}
use Rattle.protocol_dynamic_node_id.specs.Samples.{unique_id}
use Rattle.allocator_table.specs.Layout.{size, gathered_count, table_of}
use Rattle.allocator_table.specs.Table.{entry}
use Rattle.allocator.specs.Allocate.{Result}
use Rattle.allocator.specs.Calls.{Call, result_of}
use Rattle.allocator.specs.Setup.{after_setup}
use Rattle.shape.specs.declared.answer.Refusal.TheVariants.{NoRoom}
use Rattle.allocator.specs.Answer as code
use Rattle.allocator.specs.declared.answer.AllocateError.TheVariants.{Message, Exhausted}

-- an allocator that was set up
abbrev pub start : List ℕ
start = (after_setup (replicate size 0)).state

-- an anonymous message at a time, with own ID and marks, and an output buffer of so many zero bytes
abbrev pub call : ℕ → ℕ → ℕ → List ℕ → ℕ → ℕ → Call
call own low high p t room =
    record {
      request = record { reserved = record { own = own; low = low; high = high }; source = 0; time = t };
      payload = p;
      out = replicate room 0;
    }

-- the first two messages, with own ID 1 and no marks
abbrev pub after₁ : Result
after₁ = result_of start (call 1 0 0 (1 ∷ take 6 unique_id) 1117000 17)

abbrev pub after₂ : Result
after₂ = result_of after₁.state (call 1 0 0 (0 ∷ span unique_id 6 6) 1406000 17)

-- the third, which prefers a node ID
abbrev pub third : ℕ → ℕ → ℕ → ℕ → ℕ → ℕ → Result
third own low high preferred t room = result_of after₂.state (call own low high (preferred * 2 ∷ drop 12 unique_id) t room)

pub record Shown : Type 0 where
  pub answer : code.Answer
  pub out : List ℕ

abbrev pub shown : Result → Shown
shown r = record { answer = r.answer; out = r.out }

abbrev pub shows : code.Answer → List ℕ → Shown
shows a out = record { answer = a; out = out }

-- the reply to the whole unique ID, with the node ID n
abbrev pub granted : ℕ → Shown
granted n = shows (Ok (Some 17)) (n * 2 ∷ unique_id)

pub record Samples : Type 0 where
  pub first : shown after₁ ≡ shows (Ok (Some 7)) (0 ∷ take 6 unique_id ++ replicate 10 0)
  pub six : gathered_count after₁.state ≡ 6
  pub second : shown after₂ ≡ shows (Ok (Some 13)) (0 ∷ take 12 unique_id ++ replicate 4 0)
  pub twelve : gathered_count after₂.state ≡ 12
  pub last : shown (third 1 0 0 0 1485000 17) ≡ granted 125
  pub table : table_of (third 1 0 0 0 1485000 17).state ≡ entry (le unique_id) 125 ∷ []
  -- the follow-up timeout
  pub in-time : shown (third 1 0 0 0 1906000 17) ≡ granted 125
  pub late : shown (third 1 0 0 0 1906001 17) ≡ shows (Ok None) (replicate 17 0)
  -- 126 counts as 125; the own ID, and a marked one
  pub prefers-126 : shown (third 1 0 0 126 1485000 17) ≡ granted 125
  pub own : shown (third 125 0 0 125 1485000 17) ≡ granted 124
  pub marked : shown (third 1 0 (2 ^ 61) 125 1485000 17) ≡ granted 124
  pub upwards : shown (third 1 (2 ^ 10) 0 10 1485000 17) ≡ granted 11
  -- all of 1 to 125 are marked
  pub none_free : shown (third 1 (2 ^ 64 - 1) (2 ^ 62 - 1) 0 1485000 17) ≡ shows (Err Exhausted) (replicate 17 0)
  -- no room, and then enough
  pub no_room : shown (third 1 0 0 0 1485000 16) ≡ shows (Err (Message NoRoom)) (replicate 16 0)
  pub again : shown (result_of (third 1 0 0 0 1485000 16).state (call 1 0 0 (0 ∷ drop 12 unique_id) 1485000 17)) ≡ granted 125
