-- `items::count` meets its contract: 16, 25 or the number of items.
use mathlib.Core.Path.{◌≡◌, sym, ap, ◌∙◌}
use mathlib.Core.List.{List}
use mathlib.Core.Bool.{Bool}
use Prim.Native.Nat.{ℕ, ◌-◌, ◌+◌, ◌*◌, ◌/◌, ◌%◌, ◌<◌}
use native.Mathlib.Nat.{div-add-mod', mod-lt}
use native.Mathlib.Omega.{arith}
use lib.ListN.{length, drop, length-drop}
use lib.Seq.{drop-drop}
use Rattle.bits.specs.Order.{unpack, from_bits}
use Rattle.bits.proofs.Bytes.{length-unpack}
use Rattle.shape.specs.Answer.{got, numbered, number_of}
use Rattle.shape.proofs.ItemFacts.{place-low, too_long, refusal, count}
use Rattle.shape.proofs.Reading.{handed-on}
use Rattle.shape.proofs.items.count.Goals as goal

-- the bits from `at` on
remaining : (s : List ℕ) (at : ℕ) → length (drop at (unpack s)) ≡ length s * 8 - at
remaining s at = length-drop at (unpack s) ∙ ap (λ (n : ℕ). n - at) (length-unpack s)

-- those left over
over : (s : List ℕ) (at n k w r x : ℕ) → x ≡ from_bits r (drop (at + n * w) (unpack s)) → n ≡ k → x ≡ from_bits r (drop (k * w) (drop at (unpack s)))
over s at n k w r x e f =
    e ∙ ap (λ (b : List Bool). from_bits r b) (sym (drop-drop (n * w) at (unpack s))) ∙ ap (λ (j : ℕ). from_bits r (drop (j * w) (drop at (unpack s)))) f

-- the items, and what is left over
parts : (c : goal.After-whole-n) → let a = c.args in let k = length a.s.now * 8 - a.at in c.whole-n.result * a.w + k % a.w ≡ k
parts c =
    let a = c.args in
    let k = length a.s.now * 8 - a.at in
    ap (λ (n : ℕ). n * a.w + k % a.w) c.whole-n.ensures ∙ div-add-mod' k a.w

pub overflow_mul-most : goal.overflow_mul-most
overflow_mul-most c = let a = c.args in omega (arith, place-low a.m a.w (omega arith) (omega arith))

pub overflow_add-most : goal.overflow_add-most
overflow_add-most c = let a = c.args in omega (arith, place-low a.m a.w (omega arith) (omega arith))

pub overflow_add-most-2 : goal.overflow_add-most-2
overflow_add-most-2 c = let a = c.args in omega (arith, place-low a.m a.w (omega arith) (omega arith))

pub returns-then-most-s : goal.returns-then-most-s
returns-then-most-s c =
    let a = c.args in
    let s = a.s.now in
    ap numbered (sym (too_long a.w a.m (omega arith) (drop a.at (unpack s)) (length s * 8 - a.at) (remaining s a.at) (omega (arith, c.if-most-s.true))))

pub overflow_mul-bits : goal.overflow_mul-bits
overflow_mul-bits c =
    let a = c.args in
    omega (arith, c.if-most-s.false, place-low a.m a.w (omega arith) (omega arith))

pub whole-n-requires : goal.whole-n-requires
whole-n-requires c =
    let a = c.args in
    omega (arith, c.if-most-s.false, place-low a.m a.w (omega arith) (omega arith))

pub overflow_mul-n : goal.overflow_mul-n
overflow_mul-n c =
    let a = c.args in
    omega (arith, parts c, c.if-most-s.false, place-low a.m a.w (omega arith) (omega arith))

pub overflow_add-at : goal.overflow_add-at
overflow_add-at c =
    let a = c.args in
    omega (arith, parts c, c.if-most-s.false, place-low a.m a.w (omega arith) (omega arith))

pub read-requires : goal.read-requires
read-requires c =
    let a = c.args in
    let k = length a.s.now * 8 - a.at in
    let z : 0 < a.w = omega arith in
    omega (arith, parts c, mod-lt k z, c.if-most-s.false, place-low a.m a.w (omega arith) (omega arith))

pub returns-in_err-refusal : goal.returns-in_err-refusal
returns-in_err-refusal c =
    let a = c.args in
    let s = a.s.now in
    let k = length s * 8 - a.at in
    let y = c.in_err-refusal.field-0.0 in
    handed-on c.from_residual.result y c.from_residual.ensures.1
    ∙ ap numbered
    (sym (refusal a.w a.m (omega arith) (drop a.at (unpack s)) k (remaining s a.at) (omega (arith, c.if-most-s.false)) c.read.result
    (over s a.at c.whole-n.result (k / a.w) a.w (k % a.w) c.read.result c.read.ensures c.whole-n.ensures) (number_of y) c.in_err-refusal.ensures))

pub returns : goal.returns
returns c =
    let a = c.args in
    let s = a.s.now in
    let k = length s * 8 - a.at in
    ap (λ (i : ℕ). numbered (got i)) c.whole-n.ensures
    ∙ ap numbered
    (sym (count a.w a.m (omega arith) (drop a.at (unpack s)) k (remaining s a.at) (omega (arith, c.if-most-s.false)) c.read.result
    (over s a.at c.whole-n.result (k / a.w) a.w (k % a.w) c.read.result c.read.ensures c.whole-n.ensures) c.in_ok-refusal.ensures))
