-- Every answer is in its range.
use mathlib.Core.Path.{◌≡◌, refl, ap}
use mathlib.Core.Bool.{true}
use mathlib.Core.List.{List}
use mathlib.Mathlib.Data.Bool.Basic.{and_elim_left}
use Prim.Native.Nat.{ℕ, ◌≤◌}
use native.Mathlib.Omega.{arith}
use borrow.Author.Tests.{leb-true}
use lib.IntN.{pos}
use lib.ListN.{length}
use Rattle.bits.specs.Order.{bytes_for}
use Rattle.bits.proofs.Bytes.{length-bytes}
use Rattle.shape.specs.Answer.{Answer, refused, got}
use Rattle.shape.specs.Shape.{encode, encoded, fits, message}
use Rattle.shape.proofs.RoundTrip.{made}
use Rattle.protocol_dynamic_node_id.specs.Allocation.{allocation}
use Rattle.protocol_dynamic_node_id.proofs.AllocationFacts.{size}
use Rattle.allocator_table.specs.Layout.{with_time, with_count, with_gathered, with_entry}
use Rattle.allocator_table.specs.Limits.{unique_id_max}
use Rattle.allocator.specs.Allocate.{Verdict, Fields, Result, answered, performs}
use Rattle.allocator.specs.Calls.{Call, result_of}
use Rattle.allocator.specs.Laws.{Range, AnswersInRange}
use Rattle.allocator.specs.Stage.{joined}
use Rattle.allocator.proofs.Called.{Decided, ignores, waits, parts, finds, adds, lacks, Called, faults, disowned, refuses, acts, called}
use Rattle.allocator.proofs.Refusals.{Told, Small, small-write}

-- a unique ID that fits its field
few : (n : ℕ) (g : List ℕ) → fits allocation (pos n, (pos 0, g)) ≡ true → length g ≤ unique_id_max
unfolding fits
few n g f = leb-true (length g) unique_id_max (and_elim_left _ _ f)

length-reply : (n : ℕ) (g : List ℕ) (room : ℕ) (bs : List ℕ) → encoded allocation (pos n, (pos 0, g)) room ≡ got bs → length bs ≤ 17
length-reply n g room bs e =
    let w = made allocation (pos n, (pos 0, g)) room bs e in
    let s = size (pos n) (pos 0) g in
    let l : length (message allocation (pos n, (pos 0, g))) ≡ bytes_for (length (encode allocation (pos n, (pos 0, g)))) = length-bytes (bytes_for (length (encode allocation (pos n, (pos 0, g))))) _ in
    omega (arith, ap length w.is, few n g w.fit)

reply-range : (n : ℕ) (g m m' out : List ℕ) → Range (answered (encoded allocation (pos n, (pos 0, g)) (length out)) m m' out).answer
reply-range n g m m' out = go (encoded allocation (pos n, (pos 0, g)) (length out)) refl (small-write (pos n, (pos 0, g)) (length out)) where
  go : (a : Answer (List ℕ)) → encoded allocation (pos n, (pos 0, g)) (length out) ≡ a → Small a → Range (answered a m m' out).answer
  go (refused k) e s = record { number = omega (arith, s.small, s.same); reply = omega arith }
  go (got bs) e s = record { number = omega arith; reply = length-reply n g (length out) bs e }

module _ (m : List ℕ) (c : Call) where
  abbrev t : ℕ
  t = c.request.time

  by-verdict : (v : Fields) (x : Verdict) → Decided m c.request v x → Range (performs x m c.request.time (joined m c.request.time v.1.1) c.out).answer
  unfolding performs
  by-verdict v x ignores = record { number = omega arith; reply = omega arith }
  by-verdict v x waits = record { number = omega arith; reply = omega arith }
  by-verdict v x (parts e l) = reply-range 0 (joined m t v.1.1) m (with_time (with_gathered m (joined m t v.1.1)) t) c.out
  by-verdict v x (finds e l n k) = reply-range n (joined m t v.1.1) m (with_time (with_count m 0) t) c.out
  by-verdict v x (adds e l n k o) = reply-range n (joined m t v.1.1) m (with_time (with_count (with_entry m (joined m t v.1.1) n) 0) t) c.out
  by-verdict v x (lacks e l k o) = record { number = omega arith; reply = omega arith }

  by_call : (x : Result) → Called m c.request c.payload c.out x → Range x.answer
  by_call x faults = record { number = omega arith; reply = omega arith }
  by_call x disowned = record { number = omega arith; reply = omega arith }
  by_call x (refuses n h) = record { number = omega (arith, h.small, h.same); reply = omega arith }
  by_call x (acts s o v r y d) = by-verdict v y d

pub answers-in-range : AnswersInRange
answers-in-range m c = by_call m c (result_of m c) (called m c.request c.payload c.out)
