-- What a caller reads of a reply is what was written.
use mathlib.Core.Path.{◌≡◌, refl, sym, ap, ◌∙◌, subst}
use mathlib.Core.Bool.{true}
use mathlib.Core.List.{List}
use Prim.Native.Nat.{ℕ, ◌+◌, ◌≤◌, ◌<◌}
use native.Mathlib.Omega.{arith}
use borrow.Author.Tests.{lt-ltb, le-leb, le-ltb}
use lib.Dec.{lit≤}
use lib.IntN.{pos, nat_abs}
use lib.ListN.{length, drop}
use lib.Seq.{take_at}
use Rattle.bits.specs.Order.{Octets, bytes_for}
use Rattle.bits.proofs.Bytes.{length-bytes}
use Rattle.shape.specs.Answer.{Answer, refused, got, refuse_if}
use Rattle.shape.specs.Shape.{Values, encode, fits, clipped, within, message, encoded, decoded}
use Rattle.shape.proofs.RoundTrip.{round-there}
use Rattle.shape.proofs.There.{kept}
use Rattle.protocol_dynamic_node_id.specs.Allocation.{allocation}
use Rattle.protocol_dynamic_node_id.proofs.AllocationFacts.{size, fit}
use Rattle.allocator_table.specs.Limits.{unique_id_max}
use Rattle.allocator.specs.Allocate.{answered}
use Rattle.allocator.specs.Calls.{Reply}

-- a reply holds its numbers
unclipped : (n : ℕ) (g : List ℕ) → n < 128 → clipped allocation (pos n, (pos 0, g)) ≡ (pos n, (pos 0, g))
unfolding within
unclipped n g h = kept allocation (lit≤ tt) (pos n, (pos 0, g)) (rw (lt-ltb n 128 h))

module _ (i : ℕ) (h : List ℕ) (small : i < 128) (room : ℕ) (m m' out : List ℕ) where
  abbrev w : Values allocation
  w = (pos i, (pos 0, h))

  -- a reply is read as it was written
  reply-by : (a : Answer (List ℕ)) → encoded allocation (pos i, (pos 0, h)) room ≡ a → (n : ℕ) (g : List ℕ) → Reply (answered a m m' out) n g → (i ≡ n) × (h ≡ g)
  reply-by (refused k) e n g r = absurd (let q = r.answer in let z : ◌≡◌ {A = ℕ} 0 1 = cc in omega arith)
  reply-by (got bs) e n g r =
      let q = r.answer in
      let l : length bs ≡ r.len = cc in
      let there = round-there allocation (lit≤ tt) w room bs e ∙ ap got (unclipped i h small) in
      let read = ap (decoded allocation) (sym (take_at bs (drop (length bs) out) r.len l)) ∙ r.message in
      let j : ◌≡◌ {A = Answer (Values allocation)} (got w) (got (pos n, (pos 0, g))) = sym there ∙ read in
      let y : w ≡ (pos n, (pos 0, g)) = cc in
      (ap (λ (x : Values allocation). nat_abs x.0) y, ap (λ (x : Values allocation). x.1.1) y)

  pub reply-is : (n : ℕ) (g : List ℕ) → Reply (answered (encoded allocation (pos i, (pos 0, h)) room) m m' out) n g → (i ≡ n) × (h ≡ g)
  reply-is n g r = reply-by (encoded allocation w room) refl n g r

-- ── a reply that has room ──

module _ (n : ℕ) (g : List ℕ) (small : n < 128) (bytes : Octets g) (few : length g ≤ unique_id_max) where
  fits-it : fits allocation (pos n, (pos 0, g)) ≡ true
  fits-it = sym (fit (pos n) (pos 0) g bytes) ∙ le-leb (length g) unique_id_max few

  length-message : length (message allocation (pos n, (pos 0, g))) ≡ 1 + length g
  length-message =
      let e = size (pos n) (pos 0) g in
      length-bytes (bytes_for (length (encode allocation (pos n, (pos 0, g))))) _ ∙ omega arith

  module _ (m m' out : List ℕ) (room : length g < length out) where
    is-sent : encoded allocation (pos n, (pos 0, g)) (length out) ≡ got (message allocation (pos n, (pos 0, g)))
    unfolding encoded refuse_if
    is-sent = rw (fits-it, le-ltb (length out) (length (message allocation (pos n, (pos 0, g)))) (omega (arith, length-message)))

    pub replied-state : (answered (encoded allocation (pos n, (pos 0, g)) (length out)) m m' out).state ≡ m'
    replied-state = ap (λ (a : Answer (List ℕ)). (answered a m m' out).state) is-sent

    pub replied : Reply (answered (encoded allocation (pos n, (pos 0, g)) (length out)) m m' out) n g
    replied =
        subst (λ (a : Answer (List ℕ)). Reply (answered a m m' out) n g) (sym is-sent)
        (record {
          len = length (message allocation (pos n, (pos 0, g)));
          answer = refl;
          message =
              ap (decoded allocation) (take_at (message allocation (pos n, (pos 0, g))) (drop (length (message allocation (pos n, (pos 0, g)))) out) (length (message allocation (pos n, (pos 0, g)))) refl)
              ∙ round-there allocation (lit≤ tt) (pos n, (pos 0, g)) (length out) (message allocation (pos n, (pos 0, g))) is-sent
              ∙ ap got (unclipped n g small);
        })
