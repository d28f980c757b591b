-- What the writer of a message answers, as the call's result.
use mathlib.Core.Path.{◌≡◌, sym, ap, ap₂, ◌∙◌}
use mathlib.Core.List.{List, ◌++◌}
use mathlib.Core.Logic.{◌⊎◌, inl, inr}
use Prim.Native.Nat.{ℕ, ◌+◌, ◌-◌, ◌≤◌, ◌<◌}
use native.Mathlib.Omega.{arith}
use borrow.Author.Tests.{lt-ltb, le-ltb}
use lib.IntN.{ℤ, pos}
use lib.ListN.{length, take, drop, length-drop}
use lib.Seq.{take-add, take_all, take-take, drop_at, length-take-le}
use mir.Syntax.{w64}
use mir.Val.{to_z}
use mir.ValLaws.{to_z_pos}
use Rattle.bits.specs.Part.{span}
use Rattle.std.specs.Prelude.{Ok, Err, IsErrAnd}
use Rattle.std.proofs.lemmas.Result.{err_from_is_err_and}
use Rattle.std.specs.declared.result.Result.{Result}
use Rattle.shape.specs.Answer.{Answer, refused, got, Numbered, numbered, number_of, answer_of, wrote}
use Rattle.shape.specs.declared.answer.Refusal.{Refusal}
use Rattle.shape.specs.Shape.{encoded, written}
use Rattle.protocol_dynamic_node_id.specs.Allocation.{allocation}
use Rattle.allocator.specs.Answer.{refusal_of}
use Rattle.allocator.proofs.Messages.{same_refusal}
use Rattle.allocatee.specs.Answer as code
use Rattle.allocatee.specs.Calls.{returned, sent_as, sent}
use Rattle.allocatee.specs.Layout.{unique_of, preferred_of, wait_of}
use Rattle.allocatee.specs.Limits.{unique_id_max, stage_max, request_max}
use Rattle.allocatee.specs.declared.answer.AllocateeError.{AllocateeError}
use Rattle.allocatee.specs.declared.answer.AllocateeError.TheVariants.{OutputSmall, Message}
use Rattle.allocatee.specs.declared.answer.Step.TheVariants.{Sends}

module _ (m m' out out' : List ℕ) (t n : ℕ) where
  refused-by : (e : Answer (List ℕ)) → ◌≡◌ {A = Numbered ℕ × List ℕ} (numbered (refused n), out') (wrote e out) → returned (Err (Message (refusal_of n))) m out' ≡ sent_as e m m' t out
  refused-by (refused k) p = let a : n ≡ k = ap (λ (x : Numbered ℕ × List ℕ). x.0.number) p in let b : out' ≡ out = ap (λ (x : Numbered ℕ × List ℕ). x.1) p in cc
  refused-by (got bs) p = absurd (let v = ap (λ (x : Numbered ℕ × List ℕ). x.0.value) p in let z : ◌≡◌ {A = ℕ} 0 1 = cc in omega arith)

  wrote_by : (e : Answer (List ℕ)) → ◌≡◌ {A = Numbered ℕ × List ℕ} (numbered (got n), out') (wrote e out)
      → returned (Ok (Sends (record { len = n; wait = wait_of m' t }))) m' out' ≡ sent_as e m m' t out
  wrote_by (refused k) p = absurd (let v = ap (λ (x : Numbered ℕ × List ℕ). x.0.value) p in let z : ◌≡◌ {A = ℕ} 0 1 = cc in omega arith)
  wrote_by (got bs) p =
      let v = ap (λ (x : Numbered ℕ × List ℕ). x.0.value) p in
      let a : n ≡ length bs = cc in
      let b : out' ≡ bs ++ drop (length bs) out = ap (λ (x : Numbered ℕ × List ℕ). x.1) p in
      cc

  -- the writer's answer is a Result
  pub wrote-sent : (e : Answer (List ℕ)) (w : Result ℕ Refusal) → w ≡ Ok n → ◌≡◌ {A = Numbered ℕ × List ℕ} (answer_of w, out') (wrote e out)
      → returned (Ok (Sends (record { len = n; wait = wait_of m' t }))) m' out' ≡ sent_as e m m' t out
  wrote-sent e w q p = wrote_by e (ap (λ (x : Result ℕ Refusal). (answer_of x, out')) (sym q) ∙ p)

module _ (m m' out out' : List ℕ) (t : ℕ) where
  pub refused-sent : (e : Answer (List ℕ)) (r : Refusal) → ◌≡◌ {A = Numbered ℕ × List ℕ} (answer_of (Err r), out') (wrote e out) → returned (Err (Message r)) m out' ≡ sent_as e m m' t out
  refused-sent e r p = ap (λ (x : Refusal). returned (Err (Message x)) m out') (sym (same_refusal r)) ∙ refused-by m m' out out' t (number_of r) e p

-- a refusal that is handed on
pub handed-on : (a : code.Answer) (e : AllocateeError) → IsErrAnd a (λ (x : AllocateeError). x ≡ e) → a ≡ Err e
handed-on a e h = let p = err_from_is_err_and a h in rw (p.1, p.2)

-- the preferred node ID, as a number of 64 bits
pub node-sent : (n first : ℕ) (g out : List ℕ) → n < 256 → written allocation (to_z w64 n, (pos first, g)) out ≡ written allocation (pos n, (pos first, g)) out
node-sent n first g out h = ap (λ (z : ℤ). written allocation (z, (pos first, g)) out) (to_z_pos w64 n (omega arith))

module _ (first : ℕ) (part m m' : List ℕ) (t : ℕ) (out : List ℕ) where
  pub sent-small : length out < request_max → returned (Err OutputSmall) m out ≡ sent first part m m' t out
  sent-small h = rw (lt-ltb (length out) request_max h)

  pub sent-room : request_max ≤ length out → sent_as (encoded allocation (pos (preferred_of m), (pos first, part)) (length out)) m m' t out ≡ sent first part m m' t out
  sent-room h = rw (le-ltb (length out) request_max h)

-- the writer's answer for a payload that has room
module _ (first : ℕ) (g part m m' out out' : List ℕ) (p t : ℕ) (is : p ≡ preferred_of m) (small : p < 256) (bytes : g ≡ part) (room : request_max ≤ length out) (w : Result ℕ Refusal)
    (e : ◌≡◌ {A = Numbered ℕ × List ℕ} (answer_of w, out') (written allocation (to_z w64 p, (pos first, g)) out)) where
  told : ◌≡◌ {A = Numbered ℕ × List ℕ} (answer_of w, out') (wrote (encoded allocation (pos (preferred_of m), (pos first, part)) (length out)) out)
  told = e ∙ node-sent p first g out small ∙ ap₂ (λ (x : ℕ) y. written allocation (pos x, (pos first, y)) out) is bytes

  pub not-sent : (r : Refusal) → w ≡ Err r → (a : code.Answer) → a ≡ Err (Message r) → returned a m out' ≡ sent first part m m' t out
  not-sent r q a i =
      ap (λ x. returned x m out') i ∙ refused-sent m m' out out' t (encoded allocation (pos (preferred_of m), (pos first, part)) (length out)) r (ap (λ (x : Result ℕ Refusal). (answer_of x, out')) (sym q) ∙ told)
      ∙ sent-room first part m m' t out room

  pub is-sent : (n : ℕ) → w ≡ Ok n → (m₁ : List ℕ) → m₁ ≡ m' → (k : ℕ) → k ≡ wait_of m₁ t → returned (Ok (Sends (record { len = n; wait = k }))) m₁ out' ≡ sent first part m m' t out
  is-sent n q m₁ e₁ k ek =
      ap₂ (λ (x : ℕ) y. returned (Ok (Sends (record { len = n; wait = x }))) y out') (ek ∙ ap (λ y. wait_of y t) e₁) e₁
      ∙ wrote-sent m m' out out' t n (encoded allocation (pos (preferred_of m), (pos first, part)) (length out)) w q told ∙ sent-room first part m m' t out room

-- ── the parts of the unique ID ──

rest_of : (m : List ℕ) (at : ℕ) → at ≤ unique_id_max → unique_id_max ≤ length m → drop at (unique_of m) ≡ take (unique_id_max - at) (drop at m)
unfolding unique_of
rest_of m at h l =
    let e : at + (unique_id_max - at) ≡ unique_id_max = omega arith in
    ap (λ (k : ℕ). drop at (take k m)) (sym e) ∙ ap (drop at) (take-add at (unique_id_max - at) m) ∙ drop_at (take at m) (take (unique_id_max - at) (drop at m)) at (length-take-le at m (omega arith))

pub part-is : (m : List ℕ) (at end : ℕ) → at < unique_id_max → unique_id_max ≤ length m
    → ((end ≡ unique_id_max) × (unique_id_max < at + stage_max)) ⊎ ((end ≡ at + stage_max) × (end ≤ unique_id_max)) → span m at (end - at) ≡ span (unique_of m) at stage_max
part-is m at end h l (inl x) =
    let e : end - at ≡ unique_id_max - at = omega (arith, x.0) in
    let k : length (take (unique_id_max - at) (drop at m)) ≤ stage_max = omega (arith, length-take-le (unique_id_max - at) (drop at m) (omega (arith, length-drop at m)), x.1) in
    ap (λ (n : ℕ). take n (drop at m)) e ∙ sym (ap (take stage_max) (rest_of m at (omega arith) l) ∙ take_all stage_max (take (unique_id_max - at) (drop at m)) k)
part-is m at end h l (inr x) =
    let e : end - at ≡ stage_max = omega (arith, x.0) in
    ap (λ (n : ℕ). take n (drop at m)) e ∙ sym (ap (take stage_max) (rest_of m at (omega arith) l) ∙ take-take stage_max (unique_id_max - at) (drop at m) (omega (arith, x.0, x.1)))

pub first_part : (m : List ℕ) → span m 0 stage_max ≡ span (unique_of m) 0 stage_max
unfolding unique_of
first_part m = sym (take-take stage_max unique_id_max m (omega arith))
