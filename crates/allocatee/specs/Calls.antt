-- RULES 21.3 to 21.5: the calls of an allocatee, on lent bytes. Rules A to E are those that 003 prints with the Allocation message.
use Rattle.std.specs.Prelude.{Bool, true, false, not, ◌&&◌, List, [], ◌∷◌, ◌++◌, ℕ, suc, ◌-◌, eqb, ltb, pos, nat_abs, length, drop, Ok, Err}
use Rattle.bits.specs.Part.{span}
use Rattle.rules.specs.Tests.{pick}
use Rattle.shape.specs.Answer.{Answer, refused, got}
use Rattle.shape.specs.Shape.{Values, decoded, encoded}
use Rattle.protocol_dynamic_node_id.specs.Allocation.{allocation}
use Rattle.allocator.specs.Answer.{refusal_of}
use Rattle.allocatee.specs.Answer as code
use Rattle.allocatee.specs.Layout.{size, unique_of, preferred_of, node_of, pending_of, follow_up_due, request_due, wait_of, sound_state, with_node, with_pending, with_timer, fresh}
use Rattle.allocatee.specs.Limits.{unique_id_max, stage_max, request_max, node_max}
use Rattle.allocatee.specs.declared.Heard.{Heard}
use Rattle.allocatee.specs.declared.Start.{Start}
use Rattle.allocatee.specs.declared.answer.AllocateeError.TheVariants.{OutputSmall, NodeId, UniqueId, Message, Faulty}
use Rattle.allocatee.specs.declared.answer.Step.TheVariants.{Waits, Sends, Has}

-- the answer, and the state after it
pub record State : Type 0 where
  pub answer : code.Answer
  pub bytes : List ℕ

abbrev pub state : code.Answer → List ℕ → State
state a m = record { answer = a; bytes = m }

-- a state that a call leaves at the time t, which has something to do after a wait
abbrev pub waits : List ℕ → ℕ → State
waits m t = state (Ok (Waits (wait_of m t))) m

-- ── setup, rule A ──

unfoldable pub after_setup : List ℕ → List ℕ → Start → State
after_setup m u q =
    pick (eqb (length u) unique_id_max)
    (pick (ltb (length m) size) (state (Err Faulty) m)
    (pick (ltb node_max q.preferred) (state (Err NodeId) m) (waits (fresh m u q.preferred q.time q.random) q.time)))
    (state (Err UniqueId) m)

-- ── a message that came ──

-- the first list is the beginning of the second
unfoldable pub begins : List ℕ → List ℕ → Bool
begins [] ys = true
begins (x ∷ xs) [] = false
begins (x ∷ xs) (y ∷ ys) = eqb x y && begins xs ys

-- from a named node, and the bytes u begin the own unique ID
unfoldable pub is_own : List ℕ → ℕ → List ℕ → Bool
is_own m source u = not (eqb source 0) && begins u (unique_of m)

-- rule D: what is pending after a message with n bytes of a unique ID
unfoldable pub skips : Bool → ℕ → ℕ
skips own n = pick (own && ltb n unique_id_max) (suc n) 0

-- rule E, else C and D: the node ID n and the unique ID u of a message
unfoldable pub on_message : List ℕ → Heard → ℕ → List ℕ → State
on_message m q n u =
    let own = is_own m q.source u in
    pick (own && (eqb (length u) unique_id_max && not (eqb n 0))) (state (Ok (Has n)) (with_node m n))
    (waits (with_pending (with_timer m q.time q.random) (skips own (length u))) q.time)

abbrev pub on_read : Answer (Values allocation) → List ℕ → Heard → State
on_read (refused n) m q = state (Err (Message (refusal_of n))) m
on_read (got v) m q = on_message m q (nat_abs v.0) v.1.1

unfoldable pub heard : List ℕ → Heard → List ℕ → State
heard m q p =
    pick (not (sound_state m)) (state (Err Faulty) m)
    (pick (eqb (node_of m) 0) (on_read (decoded allocation p) m q) (state (Ok (Has (node_of m))) m))

-- ── a call on time: the answer, the state and the output buffer after it ──

pub record Result : Type 0 where
  pub answer : code.Answer
  pub bytes : List ℕ
  pub out : List ℕ

abbrev pub returned : code.Answer → List ℕ → List ℕ → Result
returned a m out = record { answer = a; bytes = m; out = out }

-- a payload goes out, and the state is then m'
abbrev pub sent_as : Answer (List ℕ) → List ℕ → List ℕ → ℕ → List ℕ → Result
sent_as (refused n) m m' t out = returned (Err (Message (refusal_of n))) m out
sent_as (got bs) m m' t out = returned (Ok (Sends (record { len = length bs; wait = wait_of m' t }))) m' (bs ++ drop (length bs) out)

-- RULES 21.4: an Allocation message with the preferred node ID, and a part of the own unique ID
abbrev pub sent : ℕ → List ℕ → List ℕ → List ℕ → ℕ → List ℕ → Result
sent first part m m' t out =
    pick (ltb (length out) request_max) (returned (Err OutputSmall) m out) (sent_as (encoded allocation (pos (preferred_of m), (pos first, part)) (length out)) m m' t out)

-- rule D, second part
unfoldable pub follows_up : List ℕ → ℕ → List ℕ → Result
follows_up m t out = sent 0 (span (unique_of m) (pending_of m - 1) stage_max) m (with_pending m 0) t out

-- rule B
unfoldable pub requests : List ℕ → ℕ → ℕ → List ℕ → Result
requests m t x out = sent 1 (span (unique_of m) 0 stage_max) m (with_timer m t x) t out

unfoldable pub polled : List ℕ → ℕ → ℕ → List ℕ → Result
polled m t x out =
    pick (not (sound_state m)) (returned (Err Faulty) m out)
    (pick (eqb (node_of m) 0)
    (pick (follow_up_due m t) (follows_up m t out) (pick (request_due m t) (requests m t x out) (returned (Ok (Waits (wait_of m t))) m out)))
    (returned (Ok (Has (node_of m))) m out))
