-- RULES 16.11: what holds of calls on an allocator. `laws.rt` has a function for each, whose contract it is.
use Rattle.std.specs.Prelude.{◌≡◌, Bool, true, false, List, [], ◌∷◌, ◌++◌, ◌⊎◌, ℕ, ◌≤◌, ◌<◌, length, Err}
use Rattle.std.proofs.Math.Option.{none, some}
use Rattle.bits.specs.Little.{le}
use Rattle.shape.specs.Answer.{refused}
use Rattle.shape.specs.Shape.{Values, decoded, encoded}
use Rattle.protocol_dynamic_node_id.specs.Allocation.{allocation}
use Rattle.allocator_table.specs.Layout.{size, gathered_count, table_of, sound_state}
use Rattle.allocator_table.specs.Limits.{unique_id_max}
use Rattle.allocator_table.specs.Table.{Entry, entry, holds, node_of, insert, is_givable, is_marked, is_free}
use Rattle.allocator.specs.Allocate.{answered, no_own}
use Rattle.allocator.specs.Calls.{Call, result_of, after_calls, Reply, Completes, NoneFree}
use Rattle.allocator.specs.Setup.{after_setup}
use Rattle.allocator.specs.Stage.{preferred}
use Rattle.allocator.specs.Answer.{Answer, number_of, length_in}
use Rattle.allocator.specs.declared.answer.AllocateError.TheVariants.{Exhausted}

-- RULES 16.10: after setup the table is empty, nothing is gathered, and there is no fault, whatever was in the bytes
pub record SetupLaws : Type 0 where
  pub empty : (m : List ℕ) → size ≤ length m → table_of (after_setup m).state ≡ []
  pub nothing : (m : List ℕ) → size ≤ length m → gathered_count (after_setup m).state ≡ 0
  pub sound : (m : List ℕ) → size ≤ length m → sound_state (after_setup m).state ≡ true

abbrev pub StateLasts : Type 0
StateLasts = (m : List ℕ) (cs : List Call) → sound_state m ≡ true → sound_state (after_calls m cs) ≡ true

pub record TableGrows : Type 0 where
  -- every entry is found by its unique ID
  pub found : (m : List ℕ) → sound_state m ≡ true → (xs : List Entry) (e : Entry) (ys : List Entry) → table_of m ≡ xs ++ (e ∷ ys) → node_of e.unique (table_of m) ≡ some e.node
  -- and is found again after any list of calls: no entry is changed or lost
  pub kept : (m : List ℕ) (cs : List Call) → sound_state m ≡ true → (u n : ℕ) → node_of u (table_of m) ≡ some n → node_of u (table_of (after_calls m cs)) ≡ some n

-- every reply with the whole of a unique ID in the table has its entry's node ID, after any list of calls
abbrev pub SameIdAgain : Type 0
SameIdAgain =
    (m : List ℕ) (cs : List Call) (c : Call) → sound_state m ≡ true → (g : List ℕ) → length g ≡ unique_id_max → (n : ℕ) → node_of (le g) (table_of m) ≡ some n
    → (k : ℕ) → Reply (result_of (after_calls m cs) c) k g → k ≡ n

-- RULES 16.7: of the IDs that f takes, the lowest from p on or, if there is none, the highest below p
pub data Chosen (f : ℕ → Bool) (p n : ℕ) : Type 0 where
  lowest : f n ≡ true → p ≤ n → ((k : ℕ) → p ≤ k → k < n → f k ≡ false) → Chosen f p n
  highest : f n ≡ true → n < p → ((k : ℕ) → p ≤ k → f k ≡ false) → ((k : ℕ) → n < k → k < p → f k ≡ false) → Chosen f p n

-- t is the table with one entry more, of the unique ID that the call completes
pub record Entered (m : List ℕ) (c : Call) (t : List Entry) : Type 0 where
  pub unique : List ℕ
  pub prefers : ℕ
  pub node : ℕ
  pub completes : Completes m c unique prefers
  pub new : node_of (le unique) (table_of m) ≡ none
  pub chosen : Chosen (is_free c.request.reserved (table_of m)) (preferred prefers) node
  pub table : t ≡ insert (entry (le unique) node) (table_of m)

-- which ID a new unique ID gets: a call leaves the table, or adds such an entry
abbrev pub IdGiven : Type 0
IdGiven = (m : List ℕ) (c : Call) → sound_state m ≡ true → (table_of (result_of m c).state ≡ table_of m) ⊎ Entered m c (table_of (result_of m c).state)

-- a new entry's node ID is 1 to 125, not the own ID, not marked, and not that of an entry
pub record Apart (m : List ℕ) (c : Call) (n : ℕ) : Type 0 where
  pub givable : is_givable n ≡ true
  pub not_own : n ≡ c.request.reserved.own → ⊥
  pub unmarked : is_marked c.request.reserved n ≡ false
  pub unheld : holds n (table_of m) ≡ false

pub record IdsDiffer : Type 0 where
  -- no two entries share a node ID
  pub entries : (m : List ℕ) → sound_state m ≡ true → (u v n : ℕ) → node_of u (table_of m) ≡ some n → node_of v (table_of m) ≡ some n → u ≡ v
  pub given : (m : List ℕ) (c : Call) (t : List Entry) (e : Entered m c t) → Apart m c e.node

-- 21 exactly if a new unique ID finds none of 1 to 125 free
pub record Away (m : List ℕ) (c : Call) : Type 0 where
  pub unique : List ℕ
  pub prefers : ℕ
  pub completes : Completes m c unique prefers
  pub free : NoneFree m c unique

pub record TurnedAway : Type 0 where
  pub only_if : (m : List ℕ) (c : Call) → (result_of m c).answer ≡ Err Exhausted → Away m c
  pub if : (m : List ℕ) (c : Call) → Away m c → (result_of m c).answer ≡ Err Exhausted

-- RULES 16.3, 16.6: the refusal of a message that cannot be read, and of a reply that cannot be written, has the number that the description gives
pub record RefusedByNumber : Type 0 where
  pub read : (m : List ℕ) (c : Call) (n : ℕ) → sound_state m ≡ true → no_own c.request.reserved.own ≡ false → decoded allocation c.payload ≡ refused n
      → number_of (result_of m c).answer ≡ n
  pub written : (v : Values allocation) (room n : ℕ) (m m' out : List ℕ) → encoded allocation v room ≡ refused n → number_of (answered (refused n) m m' out).answer ≡ n

-- RULES 13.3: every answer fits the word of the C entry
pub record Range (a : Answer) : Type 0 where
  pub number : number_of a ≤ 25
  pub reply : length_in a ≤ 17

abbrev pub AnswersInRange : Type 0
AnswersInRange = (m : List ℕ) (c : Call) → Range (result_of m c).answer
