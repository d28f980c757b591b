-- `le::get` meets its contract. The invariant: v is the number of the bytes from i on, and below the bound that so many bytes have.
use mathlib.Core.Path.{◌≡◌, ap, ◌∙◌}
use mathlib.Core.List.{List, ◌∷◌}
use Prim.Native.Nat.{ℕ, suc, ◌+◌, ◌*◌, ◌-◌, ◌^◌, ◌≤◌, ◌<◌}
use native.Mathlib.Nat.{pow-suc}
use native.Mathlib.Omega.{arith}
use lib.Dec.{lit<}
use lib.ListN.{length, drop, get_or}
use lib.Seq.{drop-cons, drop-length}
use Rattle.bits.specs.Little.{le}
use Rattle.bits.proofs.Little.{seven-bytes}
use Rattle.bits.proofs.le.get.Goals as goal

start : (p : List ℕ) → (0 ≡ le (drop (length p) p)) × (0 < 256 ^ (length p - length p))
unfolding le
start p =
    let z : length p - length p ≡ 0 = omega arith in
    (rw drop-length, rw z (lit< tt))

-- a turn, from i to i - 1
module _ (p : List ℕ) (i v b : ℕ) (pos : 0 < i) (in_p : i ≤ length p) (small : v < 256 ^ (length p - i)) (byte : b < 256) where
  -- the number is below 2 ^ 56 while a byte is left
  room : length p ≤ 8 → v * 256 + b < 2 ^ 64
  room h =
      let q : 256 ^ (length p - i) ≤ 2 ^ 56 = seven-bytes (length p - i) (omega arith) in
      omega arith

  below : v * 256 + b < 256 ^ (length p - (i - 1))
  below =
      let e : length p - (i - 1) ≡ suc (length p - i) = omega arith in
      rw (e, pow-suc) (omega arith)

  number : v ≡ le (drop i p) → b ≡ get_or p (i - 1) 0 → v * 256 + b ≡ le (drop (i - 1) p)
  unfolding le
  number e f =
      let k : suc (i - 1) ≡ i = omega arith in
      let d : drop (i - 1) p ≡ get_or p (i - 1) 0 ∷ drop i p = drop-cons p (i - 1) 0 (omega arith) ∙ ap (λ (n : ℕ). get_or p (i - 1) 0 ∷ drop n p) k in
      rw d (omega arith)

pub loop-i-init : goal.loop-i-init
loop-i-init c = start c.args.s.now

pub overflow_mul-v : goal.overflow_mul-v
overflow_mul-v c =
    let p = c.args.s.now in
    let r : c.loop-i.v * 256 + 0 < 2 ^ 64 = room p c.loop-i.i c.loop-i.v 0 (omega arith) (omega arith) c.loop-i.invariant.1 (lit< tt) (omega arith) in
    omega arith

pub overflow_add-v : goal.overflow_add-v
overflow_add-v c =
    let p = c.args.s.now in
    let b : c.wide.result < 256 = omega (arith, c.wide.ensures, c.type_inv.s (c.loop-i.i - 1)) in
    let r : c.loop-i.v * 256 + c.wide.result < 2 ^ 64 = room p c.loop-i.i c.loop-i.v c.wide.result (omega arith) (omega arith) c.loop-i.invariant.1 b (omega arith) in
    omega arith

pub loop-i-preserved : goal.loop-i-preserved
loop-i-preserved c =
    let p = c.args.s.now in
    let b : c.wide.result < 256 = omega (arith, c.wide.ensures, c.type_inv.s (c.loop-i.i - 1)) in (
      number p c.loop-i.i c.loop-i.v c.wide.result (omega arith) (omega arith) c.loop-i.invariant.1 b c.loop-i.invariant.0 c.wide.ensures,
      below p c.loop-i.i c.loop-i.v c.wide.result (omega arith) (omega arith) c.loop-i.invariant.1 b,
    )
