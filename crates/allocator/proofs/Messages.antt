-- What the reader of a message answers, as the description says it.
use mathlib.Core.Path.{◌≡◌, refl, sym, ap, ap₂, ◌∙◌, subst}
use mathlib.Core.Bool.{Bool, true, false}
use mathlib.Core.List.{List}
use Prim.Native.Nat.{ℕ, ◌^◌, ◌≤◌, ◌<◌}
use native.Mathlib.Omega.{arith}
use borrow.Author.Tests.{ltb-true, ltb-false}
use lib.Dec.{T, ltb, lit≤}
use lib.IntN.{ℤ, pos, nat_abs}
use lib.ListN.{length, drop}
use lib.Signed.{non_neg}
use mir.Syntax.{w64}
use mir.Val.{Fits, to_z, of_z}
use Rattle.bits.specs.Order.{Octets, unpack, from_bits}
use Rattle.std.specs.Prelude.{Ok, Err}
use Rattle.std.specs.declared.result.Result.{Result}
use Rattle.shape.specs.Answer.{Answer, refused, got, Numbered, numbered, number_of, answer_of, refuse_if, map_answer}
use Rattle.shape.specs.declared.answer.Refusal.{Refusal}
use Rattle.shape.specs.declared.answer.Refusal.TheVariants.{NoRoom, TooShort, TooLong, NotAllowed, Padding, NoCase}
use Rattle.shape.specs.Shape.{Values, tail, anything, decode, decoded}
use Rattle.shape.proofs.CastFacts.{number-below}
use Rattle.shape.proofs.SignedFacts.{is}
use Rattle.protocol_dynamic_node_id.specs.Allocation.{allocation, unique_id_in, allocation_of, allocation_in}
use Rattle.protocol_dynamic_node_id.specs.Laws.{allocation_found}
use Rattle.protocol_dynamic_node_id.specs.declared.allocation.Allocation.{Allocation}
use Rattle.protocol_dynamic_node_id.proofs.AllocationFacts.{short}
use Rattle.protocol_dynamic_node_id.proofs.Trips.{laws}
use Rattle.allocator.specs.Allocate.{Fields, fields_of}
use Rattle.allocator.specs.Answer.{refusal_of}

refused-by : (n : ℕ) (x : Answer (Values allocation)) → numbered (refused n) ≡ numbered (map_answer allocation_of x) → x ≡ refused n
unfolding map_answer
refused-by n (refused k) e = ap refused (sym (ap (λ (r : Numbered Allocation). r.number) e))
refused-by n (got v) e = absurd (let w = ap (λ (r : Numbered Allocation). r.value) e in let z : ◌≡◌ {A = ℕ} 0 1 = cc in omega arith)

got-by : (a : Allocation) (x : Answer (Values allocation)) → numbered (got a) ≡ numbered (map_answer allocation_of x) → (v : Values allocation) → ((w : Values allocation) → x ≡ got w → w ≡ v)
    → (x ≡ got v) × (a ≡ allocation_of v)
unfolding map_answer
got-by a (refused k) e v h = absurd (let w = ap (λ (r : Numbered Allocation). r.value) e in let z : ◌≡◌ {A = ℕ} 0 1 = cc in omega arith)
got-by a (got w) e v h =
    let i : w ≡ v = h w refl in
    let b = ap (λ (r : Numbered Allocation). r.value) e in
    let d : a ≡ allocation_of w = cc in
    (ap got i, d ∙ ap allocation_of i)

-- a refusal is found by its number
pub same_refusal : (r : Refusal) → refusal_of (number_of r) ≡ r
same_refusal NoRoom = refl
same_refusal TooShort = refl
same_refusal TooLong = refl
same_refusal NotAllowed = refl
same_refusal Padding = refl
same_refusal NoCase = refl

-- a number that is not negative, as a number of 64 bits
pub record Held (z : ℤ) : Type 0 where
  pub size : ℕ
  pub same : z ≡ pos size
  pub small : size < 2 ^ 63

module _ (z : ℤ) (h : Held z) where
  as-held : to_z w64 (of_z w64 z) ≡ pos h.size
  as-held = ap (λ (y : ℤ). to_z w64 (of_z w64 y)) h.same ∙ is (pos h.size) (record { sfits = h.small })

  pub casts : T (non_neg (to_z w64 (of_z w64 z))) × Fits w64 (nat_abs (to_z w64 (of_z w64 z)))
  casts = let l = h.small in rw as-held (tt, record { fits = omega arith })

  pub cast_is : nat_abs (to_z w64 (of_z w64 z)) ≡ nat_abs z
  cast_is = ap nat_abs (as-held ∙ sym h.same)

module _ (p : List ℕ) (r : Result Allocation Refusal) (e : answer_of r ≡ allocation_in p) where
  pub read-refused : (x : Refusal) → r ≡ Err x → decoded allocation p ≡ refused (number_of x)
  read-refused x q = refused-by (number_of x) (decoded allocation p) (ap answer_of (sym q) ∙ e)

  read-long : Octets p → (a : Allocation) → r ≡ Ok a → 1 ≤ length p
  read-long o a q = go (ltb (length p) 1) refl where
    go : (b : Bool) → ltb (length p) 1 ≡ b → 1 ≤ length p
    go true w =
        let v = ap (λ (x : Numbered Allocation). x.value) (ap answer_of (sym q) ∙ e ∙ short p o (ltb-true (length p) 1 w)) in
        absurd (let z : ◌≡◌ {A = ℕ} 0 1 = cc in omega arith)
    go false w = ltb-false (length p) 1 w

  read_is : Octets p → (a : Allocation) → r ≡ Ok a → (decoded allocation p ≡ got (allocation_found p)) × (a ≡ allocation_of (allocation_found p))
  read_is o a q = got-by a (decoded allocation p) (ap answer_of (sym q) ∙ e) (allocation_found p) (laws.allocations.placed p o)

  pub node-held : Octets p → (a : Allocation) → r ≡ Ok a → Held a.node_id
  node-held o a q =
      let n = ap (λ (x : Allocation). x.node_id) (read_is o a q).1 in
      record { size = from_bits 7 (unpack p); same = n; small = number-below p 0 7 (lit≤ tt) (omega (arith, read-long o a q)) a.node_id n }

  pub first-held : Octets p → (a : Allocation) → r ≡ Ok a → Held a.first_part_of_unique_id
  first-held o a q =
      let f = ap (λ (x : Allocation). x.first_part_of_unique_id) (read_is o a q).1 in
      record { size = from_bits 1 (drop 7 (unpack p)); same = f; small = number-below p 7 1 (lit≤ tt) (omega (arith, read-long o a q)) a.first_part_of_unique_id f }

  pub read-got : Octets p → (a : Allocation) → r ≡ Ok a → decoded allocation p ≡ got (a.node_id, (a.first_part_of_unique_id, unique_id_in p))
  read-got o a q =
      let b = read_is o a q in
      let n = ap (λ (x : Allocation). x.node_id) b.1 in
      let f = ap (λ (x : Allocation). x.first_part_of_unique_id) b.1 in
      b.0 ∙ ap₂ (λ (x y : ℤ). got (x, (y, unique_id_in p))) (sym n) (sym f)

-- ── no number that is read is negative ──

abbrev pub values_of : Fields → Values allocation
values_of v = (pos v.0, (pos v.1.0, v.1.1))

abbrev Each : {A : Type 0} → (A → Type 0) → Answer A → Type 0
Each P (refused n) = Unit {0}
Each P (got a) = P a

each-if : {A : Type 0} (P : A → Type 0) (b : Bool) (n : ℕ) (r : Answer A) → Each P r → Each P (refuse_if b n r)
unfolding refuse_if
each-if P true n r e = tt
each-if P false n r e = e

each_map : {A B : Type 0} (P : A → Type 0) (Q : B → Type 0) (f : A → B) → ((a : A) → P a → Q (f a)) → (r : Answer A) → Each P r → Each Q (map_answer f r)
unfolding map_answer
each_map P Q f h (refused n) e = tt
each_map P Q f h (got a) e = h a e

each-any : {A : Type 0} (r : Answer A) → Each (λ (a : A). Unit {0}) r
each-any (refused n) = tt
each-any (got a) = tt

natural : (bs : List Bool) → Each (λ (v : Values allocation). v ≡ values_of (fields_of v)) (decode allocation bs)
unfolding decode
natural bs =
    let node : Values allocation → Type 0 = λ v. v ≡ values_of (fields_of v) in
    let first : ℤ × List ℕ → Type 0 = λ v. v.0 ≡ pos (nat_abs v.0) in
    let rest = decode (tail 8 16 anything) (drop 1 (drop 7 bs)) in
    each-if node (ltb (length bs) 7) 15 _
    (each_map first node (λ v. (pos (from_bits 7 bs), v)) (λ v e. ap (λ (z : ℤ). (pos (from_bits 7 bs), (z, v.1))) e) _
    (each-if first (ltb (length (drop 7 bs)) 1) 15 _
    (each_map (λ (u : List ℕ). Unit {0}) first (λ u. (pos (from_bits 1 (drop 7 bs)), u)) (λ u e. refl) rest (each-any rest))))

pub read-natural : (p : List ℕ) (v : Values allocation) → decoded allocation p ≡ got v → v ≡ values_of (fields_of v)
read-natural p v e = subst (Each (λ (x : Values allocation). x ≡ values_of (fields_of x))) e (natural (unpack p))
