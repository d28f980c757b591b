-- `sends::follow_up` meets its contract.
use native.Mathlib.Omega.{arith}
use mathlib.Core.Path.{◌≡◌, refl, ap, ◌∙◌}
use mathlib.Core.List.{List}
use mathlib.Core.Logic.{◌⊎◌, ⊎_elim}
use Prim.Native.Nat.{ℕ, ◌+◌, ◌-◌, ◌≤◌, ◌<◌}
use lib.ListN.{length}
use Rattle.bits.specs.Part.{span}
use Rattle.allocatee.specs.Calls.{follows_up}
use Rattle.allocatee.specs.Layout.{size, unique_of, pending_of, with_pending}
use Rattle.allocatee.specs.Limits.{unique_id_max, stage_max}
use Rattle.allocatee.proofs.Sending.{sent-small, part-is, handed-on, not-sent, is-sent}
use Rattle.allocatee.proofs.sends.follow_up.Goals as goal

-- the part that the code takes
same-part : (m : List ℕ) (n : ℕ) → n ≡ pending_of m → (end : ℕ) → 0 < pending_of m → pending_of m ≤ unique_id_max → size ≤ length m
    → ((end ≡ unique_id_max) × (unique_id_max < n - 1 + stage_max)) ⊎ ((end ≡ n - 1 + stage_max) × (end ≤ unique_id_max)) → span m (n - 1) (end - (n - 1)) ≡ span (unique_of m) (pending_of m - 1) stage_max
same-part m n is end lo hi l x = part-is m (n - 1) end (omega arith) (omega arith) x ∙ ap (λ (k : ℕ). span (unique_of m) (k - 1) stage_max) is

pub returns-then-out-lt-REQUEST : goal.returns-then-out-lt-REQUEST
unfolding follows_up
returns-then-out-lt-REQUEST c = let a = c.args in sent-small 0 (span (unique_of a.bytes.now) (pending_of a.bytes.now - 1) stage_max) a.bytes.now (with_pending a.bytes.now 0) a.t a.out.now c.if-out-lt-REQUEST.true

pub slice_bounds-encode-count : goal.slice_bounds-encode-count
slice_bounds-encode-count c = ⊎_elim (λ x. omega (arith, x.0, c.pending-at.ensures.0)) (λ x. omega (arith, x.0)) c.part_end-end.ensures

pub slice_bounds-encode-start : goal.slice_bounds-encode-start
slice_bounds-encode-start c = ⊎_elim (λ x. omega (arith, x.0, c.pending-at.ensures.0)) (λ x. omega (arith, x.0)) c.part_end-end.ensures

pub slice_bounds-encode-end : goal.slice_bounds-encode-end
slice_bounds-encode-end c = ⊎_elim (λ x. omega (arith, x.0, c.pending-at.ensures.0)) (λ x. omega (arith, x.0, x.1)) c.part_end-end.ensures

pub returns-in_err-len : goal.returns-in_err-len
unfolding follows_up
returns-in_err-len c =
    let a = c.args in
    let r = c.from_residual in
    let at = c.pending-at.result - 1 in
    not-sent 0 _ (span (unique_of a.bytes.now) (pending_of a.bytes.now - 1) stage_max) a.bytes.now (with_pending a.bytes.now 0) a.out.now c.encode.new.out c.preferred.result a.t
    c.preferred.ensures.0 c.preferred.ensures.1 (same-part a.bytes.now c.pending-at.result c.pending-at.ensures.0 c.part_end-end.result c.requires.1.0 c.requires.1.1 c.requires.0 c.part_end-end.ensures) c.if-out-lt-REQUEST.false _ c.in_err-len.ensures c.in_err-len.field-0.0 refl r.result (handed-on r.result _ r.ensures.1)

pub returns : goal.returns
unfolding follows_up
returns c =
    let a = c.args in
    let at = c.pending-at.result - 1 in
    is-sent 0 _ (span (unique_of a.bytes.now) (pending_of a.bytes.now - 1) stage_max) a.bytes.now (with_pending a.bytes.now 0) a.out.now c.encode.new.out c.preferred.result a.t
    c.preferred.ensures.0 c.preferred.ensures.1 (same-part a.bytes.now c.pending-at.result c.pending-at.ensures.0 c.part_end-end.result c.requires.1.0 c.requires.1.1 c.requires.0 c.part_end-end.ensures) c.if-out-lt-REQUEST.false _ c.in_ok-len.ensures c.in_ok-len.len refl
    c.pending.new.bytes c.pending.ensures c.wait-wait.result c.wait-wait.ensures
