-- `record::word` meets its contract. The invariant: v is the number of the bytes from i on, and below the bound that so many bytes have.
use mathlib.Core.Path.{◌≡◌, ap, ◌∙◌}
use mathlib.Core.List.{List, [], ◌∷◌}
use Prim.Native.Nat.{ℕ, suc, ◌+◌, ◌*◌, ◌-◌, ◌^◌, ◌≤◌, ◌<◌}
use native.Mathlib.Nat.{pow-suc}
use native.Mathlib.Omega.{arith}
use lib.ListN.{length, take, drop, get_or, get_or-append}
use lib.Seq.{drop_at, drop-cons, length-take-le, get_or-take}
use Rattle.bits.specs.Little.{le}
use Rattle.bits.proofs.Little.{seven-bytes}
use Rattle.rules.specs.Sent.{framed}
use Rattle.rules.proofs.Frames.{framed-length}
use Rattle.frame.proofs.record.word.Goals as goal

start : (p : List ℕ) (k tail v : ℕ) → k ≤ length p → tail < 256 → v ≡ tail → (v ≡ le (drop k (framed (take k p) tail))) × (v < 256 ^ (suc k - k))
unfolding le
start p k tail v h b e =
    let o : suc k - k ≡ 1 = omega arith in
    (rw (drop_at (take k p) (tail ∷ []) k (length-take-le k p h)) (omega arith), rw o (omega arith))

-- a turn, from i to i - 1
module _ (p : List ℕ) (k tail i v b : ℕ) (pos : 0 < i) (in-k : i ≤ k) (in_p : k ≤ length p) (small : v < 256 ^ (suc k - i)) (byte : b < 256) where
  -- the number is below 2 ^ 56 while a byte is left
  room : k ≤ 7 → v * 256 + b < 2 ^ 64
  room h =
      let q : 256 ^ (suc k - i) ≤ 2 ^ 56 = seven-bytes (suc k - i) (omega arith) in
      omega arith

  below : v * 256 + b < 256 ^ (suc k - (i - 1))
  below =
      let e : suc k - (i - 1) ≡ suc (suc k - i) = omega arith in
      rw (e, pow-suc) (omega arith)

  number : v ≡ le (drop i (framed (take k p) tail)) → b ≡ get_or p (i - 1) 0 → v * 256 + b ≡ le (drop (i - 1) (framed (take k p) tail))
  unfolding le
  number e f =
      let q = framed (take k p) tail in
      let l : length (take k p) ≡ k = length-take-le k p in_p in
      let j : suc (i - 1) ≡ i = omega arith in
      let n = framed-length (take k p) tail in
      let g : get_or q (i - 1) 0 ≡ get_or p (i - 1) 0 = get_or-append (take k p) (tail ∷ []) 0 (i - 1) (omega arith) ∙ get_or-take k p (i - 1) 0 (omega arith) in
      let d : drop (i - 1) q ≡ get_or q (i - 1) 0 ∷ drop i q = drop-cons q (i - 1) 0 (omega arith) ∙ ap (λ (x : ℕ). get_or q (i - 1) 0 ∷ drop x q) j in
      rw d (omega arith)

pub loop-i-init : goal.loop-i-init
loop-i-init c =
    start c.args.p.now c.args.k c.args.tail c.wide-v.result (omega arith) (omega arith) c.wide-v.ensures

pub overflow_mul-v : goal.overflow_mul-v
overflow_mul-v c =
    let r : c.loop-i.v * 256 + 0 < 2 ^ 64 = room c.args.p.now c.args.k c.args.tail c.loop-i.i c.loop-i.v 0 (omega arith) (omega arith) (omega arith) c.loop-i.invariant.1 (omega arith) (omega arith) in
    omega arith

pub overflow_add-v : goal.overflow_add-v
overflow_add-v c =
    let b : c.wide.result < 256 = omega (arith, c.wide.ensures, c.type_inv.p (c.loop-i.i - 1)) in
    let r : c.loop-i.v * 256 + c.wide.result < 2 ^ 64 =
    room c.args.p.now c.args.k c.args.tail c.loop-i.i c.loop-i.v c.wide.result (omega arith) (omega arith) (omega arith) c.loop-i.invariant.1 b (omega arith) in
    omega arith

pub loop-i-preserved : goal.loop-i-preserved
loop-i-preserved c =
    let a = c.args in
    let b : c.wide.result < 256 = omega (arith, c.wide.ensures, c.type_inv.p (c.loop-i.i - 1)) in (
      number a.p.now a.k a.tail c.loop-i.i c.loop-i.v c.wide.result (omega arith) (omega arith) (omega arith) c.loop-i.invariant.1 b c.loop-i.invariant.0 c.wide.ensures,
      below a.p.now a.k a.tail c.loop-i.i c.loop-i.v c.wide.result (omega arith) (omega arith) (omega arith) c.loop-i.invariant.1 b,
    )
