-- What refuses a record is 2 or 3, and its refusal has that number.
use mathlib.Core.Path.{◌≡◌, refl}
use mathlib.Core.Bool.{Bool, true, false}
use mathlib.Core.List.{List, [], ◌∷◌}
use Prim.Native.Nat.{ℕ, ◌%◌}
use borrow.Author.Tests.{eq-eqb, ne_eqb}
use lib.Dec.{eqb}
use lib.ListN.{length, get_or}
use Rattle.rules.specs.Check.{large_id, bad_length}
use Rattle.rules.specs.Limits.{frame_record}
use Rattle.rules.specs.Tests.{pick}
use Rattle.queue.specs.Answer.{error_number, number_of, refusal}
use Rattle.queue.specs.Calls.{after_put}
use Rattle.queue.specs.Laws.{RefusedByNumber}
use Rattle.queue.specs.Layout.{sound_queue, records_of}
use Rattle.queue.specs.Queue.{Record, id_of, fault_of, first_fault}

one : (r : Record) → (fault_of r ≡ 0 → ⊥) → error_number (refusal (fault_of r)) ≡ fault_of r
unfolding fault_of
one r = go (large_id (id_of r)) (bad_length (get_or r 4 0)) where
  go : (a b : Bool) → (◌≡◌ {A = ℕ} (pick a 2 (pick b 3 0)) 0 → ⊥) → error_number (refusal (pick a 2 (pick b 3 0))) ≡ pick a 2 (pick b 3 0)
  go true b n = refl
  go false true n = refl
  go false false n = absurd (n refl)

list : (rs : List Record) → (first_fault rs ≡ 0 → ⊥) → error_number (refusal (first_fault rs)) ≡ first_fault rs
unfolding first_fault
list [] n = absurd (n refl)
list (r ∷ rs) n = go (list rs) (eqb (fault_of r) 0) refl where
  go : ((first_fault rs ≡ 0 → ⊥) → error_number (refusal (first_fault rs)) ≡ first_fault rs) → (b : Bool) → eqb (fault_of r) 0 ≡ b
      → error_number (refusal (first_fault (r ∷ rs))) ≡ first_fault (r ∷ rs)
  go rest true e = rw e (rest (λ z. n (rw e z)))
  go rest false e = rw e (one r (λ z. n (rw e z)))

put : (m p : List ℕ) → sound_queue m ≡ true → length p % frame_record ≡ 0 → (first_fault (records_of p) ≡ 0 → ⊥)
    → number_of (after_put m p).answer ≡ first_fault (records_of p)
unfolding after_put
put m p fine cut n =
    rw (fine, eq-eqb (length p % frame_record) 0 cut, ne_eqb (first_fault (records_of p)) 0 n) (list (records_of p) n)

pub refused-by-number : RefusedByNumber
refused-by-number = record { one = one; list = list; put = put }
