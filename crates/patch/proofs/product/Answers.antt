-- `product` meets its contract: r is the product of the bits that are done, which are those from place k on.
use mathlib.Core.Path.{◌≡◌, sym, ap, ◌∙◌}
use Prim.Native.Nat.{ℕ, suc, ◌+◌, ◌*◌, ◌-◌, ◌/◌, ◌%◌, ◌^◌, ◌≤◌, ◌<◌}
use native.Mathlib.Omega.{arith}
use lib.Bits.{bit_xor}
use lib.Pow.{shr-shr}
use Rattle.checksum.specs.Crc.{shift}
use Rattle.checksum.specs.Crc16.{ccitt}
use Rattle.checksum.proofs.Xor.{bit-cases}
use Rattle.patch.specs.inside.Powers.{product_of}
use Rattle.patch.proofs.product.Goals as goal

begin : (bits v w : ℕ) → 0 ≡ product_of (bits - bits) v w
unfolding product_of
begin bits v w = let z : 0 ≡ bits - bits = omega arith in ap (λ (n : ℕ). product_of n v w) z

turn : (bits v w k r q : ℕ) → k ≤ bits → 0 < k → r ≡ product_of (bits - k) (v / 2 ^ k) w → q ≡ shift ccitt r
    → bit_xor q (v / 2 ^ (k - 1) % 2 * w) ≡ product_of (bits - (k - 1)) (v / 2 ^ (k - 1)) w
unfolding product_of
turn bits v w k r q h pos e f =
    let u = v / 2 ^ (k - 1) in
    let j : k - 1 + 1 ≡ k = omega arith in
    let n : suc (bits - k) ≡ bits - (k - 1) = omega arith in
    let half : v / 2 ^ k ≡ u / 2 = ap (λ (i : ℕ). v / 2 ^ i) (sym j) ∙ sym (shr-shr v (k - 1) 1) in
    ap (λ (z : ℕ). bit_xor z (u % 2 * w)) (f ∙ ap (shift ccitt) (e ∙ ap (λ (x : ℕ). product_of (bits - k) x w) half))
    ∙ ap (λ (i : ℕ). product_of i u w) n

done : (bits v w k r : ℕ) → k ≡ 0 → r ≡ product_of (bits - k) (v / 2 ^ k) w → r ≡ product_of bits v w
done bits v w k r z e =
    let one : v / 1 ≡ v = omega arith in
    let n : bits - 0 ≡ bits = omega arith in
    e ∙ ap (λ (i : ℕ). product_of (bits - i) (v / 2 ^ i) w) z ∙ ap (λ (i : ℕ). product_of i (v / 1) w) n ∙ ap (λ (x : ℕ). product_of bits x w) one

-- a bit times a number of 16 bits
small : (x w : ℕ) → x < 2 → w < 65536 → x * w < 65536
small x w l h = bit-cases (λ (x : ℕ). x * w < 65536) (omega arith) (omega arith) x l

pub loop-k-init : goal.loop-k-init
loop-k-init c = let a = c.args in begin a.bits (a.v / 2 ^ a.bits) a.w

pub loop-k-preserved : goal.loop-k-preserved
loop-k-preserved c =
    let a = c.args in
    turn a.bits a.v a.w c.loop-k.k c.loop-k.r c.up.result (omega arith) (omega arith) c.loop-k.invariant c.up.ensures
