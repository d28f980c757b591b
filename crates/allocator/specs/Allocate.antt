-- RULES 16.2 to 16.9: one call of an allocator, on lent bytes.
use Rattle.std.specs.Prelude.{Bool, not, ◌||◌, List, ◌++◌, ℕ, eqb, ltb, pos, nat_abs, length, drop, Some, None, Ok, Err}
use Rattle.std.proofs.Math.Option.{Option, none, some}
use Rattle.bits.specs.Little.{le}
use Rattle.rules.specs.Tests.{pick}
use Rattle.shape.specs.Answer.{Answer, refused, got}
use Rattle.shape.specs.Shape.{Values, decoded, encoded}
use Rattle.protocol_dynamic_node_id.specs.Allocation.{allocation}
use Rattle.allocator_table.specs.Layout.{table_of, sound_state, with_time, with_count, with_gathered, with_entry}
use Rattle.allocator_table.specs.Limits.{unique_id_max}
use Rattle.allocator_table.specs.Table.{node_of, is_free, given}
use Rattle.allocator.specs.Answer as code
use Rattle.allocator.specs.Answer.{refusal_of}
use Rattle.allocator.specs.Stage.{accepts, kept_at, joined, preferred}
use Rattle.allocator.specs.declared.Request.{Request}
use Rattle.allocator.specs.declared.answer.AllocateError.TheVariants.{OwnId, Message, Exhausted, Faulty}

-- ── what is to be done ──

pub data Verdict : Type 0 where
  -- a named source
  ignored : Verdict
  -- anonymous, and not the stage that is expected
  awaits : Verdict
  -- a part of a unique ID
  gathers : Verdict
  -- a whole unique ID: its entry's node ID, a new entry's, or none
  knows : ℕ → Verdict
  gives : ℕ → Verdict
  exhausted : Verdict

-- RULES 16.7, 16.8
abbrev pub allots : Option ℕ → Option ℕ → Verdict
allots (some n) o = knows n
allots none (some n) = gives n
allots none none = exhausted

-- a whole unique ID, and the node ID that it prefers
unfoldable pub completes : List ℕ → Request → List ℕ → ℕ → Verdict
completes m q g p = allots (node_of (le g) (table_of m)) (given (is_free q.reserved (table_of m)) (preferred p))

-- the node ID, the first part and the unique ID of a message: no number that is read is negative
abbrev pub Fields : Type 0
Fields = ℕ × (ℕ × List ℕ)

abbrev pub fields_of : Values allocation → Fields
fields_of v = (nat_abs v.0, (nat_abs v.1.0, v.1.1))

-- RULES 16.4 to 16.7
unfoldable pub decide : List ℕ → Request → Fields → Verdict
decide m q v =
    let g = joined m q.time v.1.1 in
    pick (eqb q.source 0)
    (pick (accepts v.1.0 (length v.1.1) (kept_at m q.time)) (pick (ltb (length g) unique_id_max) gathers (completes m q g v.0)) awaits) ignored

-- ── the answer, the state and the output buffer after it ──

pub record Result : Type 0 where
  pub answer : code.Answer
  pub state : List ℕ
  pub out : List ℕ

abbrev pub returned : code.Answer → List ℕ → List ℕ → Result
returned a m out = record { answer = a; state = m; out = out }

-- RULES 16.6: the reply is an Allocation message with first part 0. If there is no room for it, nothing changes
abbrev pub answered : Answer (List ℕ) → List ℕ → List ℕ → List ℕ → Result
answered (refused n) m m' out = returned (Err (Message (refusal_of n))) m out
answered (got bs) m m' out = returned (Ok (Some (length bs))) m' (bs ++ drop (length bs) out)

abbrev pub replies : ℕ → List ℕ → List ℕ → List ℕ → List ℕ → Result
replies n g m m' out = answered (encoded allocation (pos n, (pos 0, g)) (length out)) m m' out

-- RULES 16.9: at the time t, with the bytes g gathered
unfoldable pub performs : Verdict → List ℕ → ℕ → List ℕ → List ℕ → Result
performs ignored m t g out = returned (Ok None) m out
performs awaits m t g out = returned (Ok None) (with_count m (kept_at m t)) out
performs gathers m t g out = replies 0 g m (with_time (with_gathered m g) t) out
performs (knows n) m t g out = replies n g m (with_time (with_count m 0) t) out
performs (gives n) m t g out = replies n g m (with_time (with_count (with_entry m g n) 0) t) out
performs exhausted m t g out = returned (Err Exhausted) (with_count m 0) out

-- ── the call, RULES 16.3 ──

unfoldable pub on_message : Answer (Values allocation) → List ℕ → Request → List ℕ → Result
on_message (refused n) m q out = returned (Err (Message (refusal_of n))) m out
on_message (got v) m q out = performs (decide m q (fields_of v)) m q.time (joined m q.time v.1.1) out

-- an own node ID that 13 refuses
abbrev pub no_own : ℕ → Bool
no_own own = eqb own 0 || ltb 127 own

unfoldable pub allocated : List ℕ → Request → List ℕ → List ℕ → Result
allocated m q p out =
    pick (not (sound_state m)) (returned (Err Faulty) m out)
    (pick (no_own q.reserved.own) (returned (Err OwnId) m out) (on_message (decoded allocation p) m q out))
