-- What the writer of a reply answers, as the call's result.
use mathlib.Core.Path.{◌≡◌, sym, ap, ◌∙◌}
use mathlib.Core.List.{List, ◌++◌}
use Prim.Native.Nat.{ℕ, ◌≤◌}
use native.Mathlib.Omega.{arith}
use lib.IntN.{ℤ, pos}
use lib.ListN.{length, drop}
use mir.Syntax.{w64}
use mir.Val.{to_z}
use mir.ValLaws.{to_z_pos}
use Rattle.std.specs.Prelude.{Some, Ok, Err, IsErrAnd}
use Rattle.std.proofs.lemmas.Result.{err_from_is_err_and}
use Rattle.std.specs.declared.result.Result.{Result}
use Rattle.shape.specs.Answer.{Answer, refused, got, Numbered, numbered, number_of, answer_of, wrote}
use Rattle.shape.specs.Shape.{written}
use Rattle.shape.specs.declared.answer.Refusal.{Refusal}
use Rattle.protocol_dynamic_node_id.specs.Allocation.{allocation}
use Rattle.allocator_table.specs.Limits.{node_max}
use Rattle.allocator.specs.Answer.{refusal_of}
use Rattle.allocator.specs.inside.Replied.{replied}
use Rattle.allocator.specs.Allocate.{returned, answered}
use Rattle.allocator.specs.declared.answer.AllocateError.TheVariants.{Message}
use Rattle.allocator.proofs.Messages.{same_refusal}

-- the node ID of a reply, as a number of 64 bits
pub node-sent : (n : ℕ) (g out : List ℕ) → n ≤ node_max → written allocation (to_z w64 n, (pos 0, g)) out ≡ written allocation (pos n, (pos 0, g)) out
node-sent n g out h = ap (λ (z : ℤ). written allocation (z, (pos 0, g)) out) (to_z_pos w64 n (omega arith))

module _ (m m' out out' : List ℕ) (n : ℕ) where
  refused-by : (e : Answer (List ℕ)) → ◌≡◌ {A = Numbered ℕ × List ℕ} (numbered (refused n), out') (wrote e out) → returned (Err (Message (refusal_of n))) m out' ≡ answered e m m' out
  refused-by (refused k) p = let a : n ≡ k = ap (λ (x : Numbered ℕ × List ℕ). x.0.number) p in let b : out' ≡ out = ap (λ (x : Numbered ℕ × List ℕ). x.1) p in cc
  refused-by (got bs) p = absurd (let v = ap (λ (x : Numbered ℕ × List ℕ). x.0.value) p in let z : ◌≡◌ {A = ℕ} 0 1 = cc in omega arith)

  wrote_by : (e : Answer (List ℕ)) → ◌≡◌ {A = Numbered ℕ × List ℕ} (numbered (got n), out') (wrote e out) → returned (Ok (Some n)) m' out' ≡ answered e m m' out
  wrote_by (refused k) p = absurd (let v = ap (λ (x : Numbered ℕ × List ℕ). x.0.value) p in let z : ◌≡◌ {A = ℕ} 0 1 = cc in omega arith)
  wrote_by (got bs) p =
      let v = ap (λ (x : Numbered ℕ × List ℕ). x.0.value) p in
      let a : n ≡ length bs = cc in
      let b : out' ≡ bs ++ drop (length bs) out = ap (λ (x : Numbered ℕ × List ℕ). x.1) p in
      cc

module _ (m m' out out' : List ℕ) (e : Answer (List ℕ)) where
  -- a refusal that is handed on
  pub refused-reply : (r : Refusal) → ◌≡◌ {A = Numbered ℕ × List ℕ} (answer_of (Err r), out') (wrote e out) → (w : Result ℕ Refusal) → IsErrAnd w (λ (x : Refusal). x ≡ r)
      → returned (replied w) m out' ≡ answered e m m' out
  refused-reply r p w h =
      let q = err_from_is_err_and w h in
      rw (q.1, q.2) (ap (λ (x : Refusal). returned (Err (Message x)) m out') (sym (same_refusal r)) ∙ refused-by m m' out out' (number_of r) e p)

  pub wrote-reply : (n : ℕ) → ◌≡◌ {A = Numbered ℕ × List ℕ} (answer_of (Ok n), out') (wrote e out) → returned (Ok (Some n)) m' out' ≡ answered e m m' out
  wrote-reply n p = wrote_by m m' out out' n e p
