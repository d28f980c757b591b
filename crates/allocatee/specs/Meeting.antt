-- RULES 21.7: an allocatee and an allocator (RULES 16) that hear each other, each with a clock of its own. `laws.rt` has a function whose contract it is.
use Rattle.std.specs.Prelude.{◌≡◌, true, false, List, ◌⊎◌, ℕ, ◌-◌, ◌^◌, ◌≤◌, ◌<◌, length, take}
use Rattle.std.proofs.Math.Option.{some}
use Rattle.bits.specs.Little.{le}
use Rattle.bits.specs.Order.{Octets}
use Rattle.allocator_table.specs.Layout as table
use Rattle.allocator_table.specs.Limits.{followup_timeout}
use Rattle.allocator_table.specs.Table as entries
use Rattle.allocator.specs.Allocate.{no_own}
use Rattle.allocator.specs.Answer as replied
use Rattle.allocator.specs.Calls as allocator
use Rattle.allocator.specs.declared.Request.{Request}
use Rattle.allocatee.specs.Answer.{length_in}
use Rattle.allocatee.specs.Calls.{Result, polled, heard}
use Rattle.allocatee.specs.Layout.{unique_of, node_of, pending_of, follow_up_due, request_due, sound_state}
use Rattle.allocatee.specs.Limits.{request_max, unique_id_max}
use Rattle.allocatee.specs.declared.Heard.{Heard}

pub record Both : Type 0 where
  pub allocatee : List ℕ
  pub allocator : List ℕ

-- what the allocatee's call on time is given, what comes with its message at the allocator, the allocator's buffer for a reply, and what comes with the reply
-- at the allocatee
pub record Turn : Type 0 where
  pub time : ℕ
  pub random : ℕ
  pub out : List ℕ
  pub request : Request
  pub reply : List ℕ
  pub heard : Heard

abbrev pub sends : Both → Turn → Result
sends b k = polled b.allocatee k.time k.random k.out

abbrev pub asks : Both → Turn → allocator.Call
asks b k = record { request = k.request; payload = take (length_in (sends b k).answer) (sends b k).out; out = k.reply }

abbrev pub replies : Both → Turn → List ℕ
replies b k =
    let r = allocator.result_of b.allocator (asks b k) in take (replied.length_in r.answer) r.out

-- the allocatee sends, the allocator serves what it sent, and the allocatee hears the reply
unfoldable pub after : Both → Turn → Both
after b k = record { allocatee = (heard (sends b k).bytes k.heard (replies b k)).bytes; allocator = (allocator.result_of b.allocator (asks b k)).state }

-- there is room, the allocator has an ID of its own, and each sees the other as what it is
pub record Fits (k : Turn) : Type 0 where
  pub room : request_max ≤ length k.out
  pub reply : unique_id_max < length k.reply
  pub own : no_own k.request.reserved.own ≡ false
  pub anonymous : k.request.source ≡ 0
  -- as its type says
  pub time : k.request.time < 2 ^ 64
  pub named : k.heard.source ≡ 0 → ⊥

pub record Premises (b : Both) (k₁ k₂ k₃ : Turn) : Type 0 where
  -- an allocatee without an ID, and an allocator without a fault
  pub allocatee : sound_state b.allocatee ≡ true
  pub octets : Octets (unique_of b.allocatee)
  pub no_node : node_of b.allocatee ≡ 0
  pub idle : pending_of b.allocatee ≡ 0
  pub allocator : table.sound_state b.allocator ≡ true
  pub first : Fits k₁
  pub second : Fits k₂
  pub third : Fits k₃
  -- each call on time comes when something is due
  pub request-due : request_due b.allocatee k₁.time ≡ true
  pub second-due : follow_up_due (after b k₁).allocatee k₂.time ≡ true
  pub third-due : follow_up_due (after (after b k₁) k₂).allocatee k₃.time ≡ true
  -- RULES 16.4, by the allocator's clock
  pub begins : (table.gathered_count b.allocator ≡ 0) ⊎ (followup_timeout < k₁.request.time - table.time_of b.allocator)
  pub then : k₂.request.time - k₁.request.time ≤ followup_timeout
  pub last : k₃.request.time - k₂.request.time ≤ followup_timeout
  -- the unique ID has an entry, or an ID is free
  pub possible : ((n : ℕ) → entries.node_of (le (unique_of b.allocatee)) (table.table_of b.allocator) ≡ some n → ⊥)
      → ((k : ℕ) → entries.is_free k₃.request.reserved (table.table_of b.allocator) k ≡ false) → ⊥

-- both have the same ID for it
pub record SameId (b b' : Both) : Type 0 where
  pub node : ℕ
  pub givable : entries.is_givable node ≡ true
  pub taken : node_of b'.allocatee ≡ node
  pub entered : entries.node_of (le (unique_of b.allocatee)) (table.table_of b'.allocator) ≡ some node

abbrev pub Meeting : Type 0
Meeting = (b : Both) (k₁ k₂ k₃ : Turn) → Premises b k₁ k₂ k₃ → SameId b (after (after (after b k₁) k₂) k₃)
