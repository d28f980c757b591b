-- `frames::others` meets its contract. The invariant: what is written, with the records of what is unsent, is all records.
use mathlib.Core.Path.{◌≡◌, refl, sym, ap, ◌∙◌}
use mathlib.Core.Bool.{Bool, true, false}
use mathlib.Core.List.{List}
use Prim.Native.Nat.{ℕ, ◌+◌, ◌*◌, ◌/◌, ◌%◌, ◌≤◌, ◌<◌}
use native.Mathlib.Omega.{arith}
use lib.ListN.{length, drop, length-drop}
use mir.Val.{bool_byte}
use Rattle.bits.specs.Part.{splice}
use Rattle.rules.specs.Sending.{records_of}
use Rattle.sender.proofs.Pieces.{onward, onward-end, splice-none, others-turn, others-are}
use Rattle.sender.proofs.frames.others.Goals as goal

byte_le : (b : Bool) → bool_byte b ≤ 1
byte_le true = omega arith
byte_le false = omega arith

-- there is room for one more record
room : (n k at size : ℕ) → k < n → (k + 2) % 7 ≡ 0 → at ≡ (k + 2) / 7 * 13 → 13 * ((n + 8) / 7) ≤ size → at + 13 ≤ size
room n k at size h m e r = omega arith

written : (out out₀ payload : List ℕ) (id t k at : ℕ) (g : Bool) → length payload ≤ k → splice out at (records_of id (onward g t (drop k payload))) ≡ out₀ → out ≡ out₀
unfolding records_of
written out out₀ payload id t k at g h e =
    let l : length (drop k payload) ≡ 0 = length-drop k payload ∙ omega arith in
    sym (splice-none out at) ∙ ap (λ x. splice out at (records_of id x)) (sym (onward-end g t (drop k payload) l)) ∙ e

pub loop-k-init : goal.loop-k-init
loop-k-init c = (refl, (refl, (omega arith, (refl, refl))))

pub slice_bounds-next-count : goal.slice_bounds-next-count
slice_bounds-next-count c = omega arith

pub slice_bounds-next-start : goal.slice_bounds-next-start
slice_bounds-next-start c = omega arith

pub slice_bounds-next-end : goal.slice_bounds-next-end
slice_bounds-next-end c = omega arith

pub overflow_cast-toggle : goal.overflow_cast-toggle
overflow_cast-toggle c = tt

pub overflow_mul-toggle : goal.overflow_mul-toggle
overflow_mul-toggle c = let b = byte_le c.loop-k.toggle in omega arith

pub overflow_add-toggle : goal.overflow_add-toggle
overflow_add-toggle c = let b = byte_le c.loop-k.toggle in omega arith

pub next-requires : goal.next-requires
next-requires c =
    let b = byte_le c.loop-k.toggle in
    let a = c.args in
    let i = c.loop-k.invariant in
    let r : c.loop-k.at + 13 ≤ length c.loop-k.out =
    room (length a.payload.now) c.loop-k.k c.loop-k.at (length c.loop-k.out) (omega arith) i.0 i.1.0 (omega arith) in
    (r, omega arith)

pub overflow_add-k : goal.overflow_add-k
overflow_add-k c = omega arith

pub overflow_add-at : goal.overflow_add-at
overflow_add-at c = omega arith

pub loop-k-smaller : goal.loop-k-smaller
loop-k-smaller c = omega arith

pub loop-k-preserved : goal.loop-k-preserved
loop-k-preserved c =
    let a = c.args in
    let i = c.loop-k.invariant in
    let r : c.loop-k.at + 13 ≤ length c.loop-k.out =
    room (length a.payload.now) c.loop-k.k c.loop-k.at (length c.loop-k.out) (omega arith) i.0 i.1.0 (omega arith) in (
      omega arith,
      (
        omega arith,
        (
          omega arith,
          (
            c.next.auto.out ∙ i.1.1.1.0,
            others-turn c.loop-k.out c.next.new.out a.payload.now a.id a.transfer c.loop-k.k c.loop-k.at c.loop-k.toggle (omega arith) r c.next.ensures
                ∙ i.1.1.1.1,
          ),
        ),
      ),
    )

pub shape_of-out : goal.shape_of-out
shape_of-out c = c.loop-k.invariant.1.1.1.0

pub returns : goal.returns
returns c =
    let a = c.args in
    written c.loop-k.out _ a.payload.now a.id a.transfer c.loop-k.k c.loop-k.at c.loop-k.toggle (omega arith) c.loop-k.invariant.1.1.1.1
    ∙ ap (λ x. splice a.out.now 13 (records_of a.id x)) (others-are a.transfer a.payload.now (omega arith))
