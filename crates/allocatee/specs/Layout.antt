-- RULES 21.1, 21.2, 21.5, 21.6: the state of an allocatee in lent bytes: its layout, its view, the test for 20, and what is written. Numbers are low byte first; bytes
-- past the layout are not read.
use Rattle.std.specs.Prelude.{Bool, ◌&&◌, List, ℕ, ◌+◌, ◌-◌, ◌/◌, ◌%◌, ◌^◌, eqb, leb, ltb, length, take, get_or, set}
use Rattle.bits.specs.Little.{le, le_bytes}
use Rattle.bits.specs.Part.{span, splice}
use Rattle.rules.specs.Tests.{pick}
use Rattle.allocatee.specs.Limits.{unique_id_max, node_max, period_min, spread}

-- ── where each part starts; src/layout.rt has the same for the code ──

-- unique ID, preferred node ID, node ID that was taken, follow-up that is pending, when the request timer started, and two random numbers: for the request
-- period and for the follow-up delay
abbrev pub unique_at : ℕ
unique_at = 0

abbrev pub preferred_at : ℕ
preferred_at = unique_at + unique_id_max

abbrev pub node_at : ℕ
node_at = preferred_at + 1

abbrev pub pending_at : ℕ
pending_at = node_at + 1

abbrev pub since_at : ℕ
since_at = pending_at + 1

abbrev pub period_at : ℕ
period_at = since_at + 8

abbrev pub delay_at : ℕ
delay_at = period_at + 4

-- the bytes of the whole layout
abbrev pub size : ℕ
size = delay_at + 4

-- ── the view ──

unfoldable pub unique_of : List ℕ → List ℕ
unique_of m = take unique_id_max m

unfoldable pub preferred_of : List ℕ → ℕ
preferred_of m = get_or m preferred_at 0

-- 0 as long as there is none
unfoldable pub node_of : List ℕ → ℕ
node_of m = get_or m node_at 0

-- one more than the number of bytes that the follow-up skips; 0 if none is pending
unfoldable pub pending_of : List ℕ → ℕ
pending_of m = get_or m pending_at 0

unfoldable pub since_of : List ℕ → ℕ
since_of m = le (span m since_at 8)

-- RULES 21.2
unfoldable pub period_of : List ℕ → ℕ
period_of m = period_min + le (span m period_at 4) % spread

unfoldable pub delay_of : List ℕ → ℕ
delay_of m = le (span m delay_at 4) % spread

-- RULES 21.4: what is due at the time t, and in how many microseconds something is
unfoldable pub follow_up_due : List ℕ → ℕ → Bool
follow_up_due m t = ltb 0 (pending_of m) && leb (delay_of m) (t - since_of m)

unfoldable pub request_due : List ℕ → ℕ → Bool
request_due m t = leb (period_of m) (t - since_of m)

unfoldable pub wait_of : List ℕ → ℕ → ℕ
wait_of m t = pick (eqb (pending_of m) 0) (period_of m) (delay_of m) - (t - since_of m)

-- RULES 21.6: no fault
unfoldable pub sound_state : List ℕ → Bool
sound_state m = leb size (length m) && (leb (preferred_of m) node_max && (leb (node_of m) node_max && leb (pending_of m) unique_id_max))

-- ── writing ──

unfoldable pub with_node : List ℕ → ℕ → List ℕ
with_node m n = set m node_at n

unfoldable pub with_pending : List ℕ → ℕ → List ℕ
with_pending m n = set m pending_at n

-- the request timer starts at the time t, with the random number x
unfoldable pub with_timer : List ℕ → ℕ → ℕ → List ℕ
with_timer m t x = splice (splice (splice m since_at (le_bytes 8 t)) period_at (le_bytes 4 (x % 2 ^ 32))) delay_at (le_bytes 4 (x / 2 ^ 32))

-- an allocatee with the unique ID u that prefers the node ID p, and has none
unfoldable pub fresh : List ℕ → List ℕ → ℕ → ℕ → ℕ → List ℕ
fresh m u p t x = with_timer (with_pending (with_node (set (splice m unique_at u) preferred_at p) 0) 0) t x
