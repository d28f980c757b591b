-- `field::read` meets its contract: the octets from the top down, each below the number so far.
use Rattle.bits.proofs.Numbers.{number_lt}
use Rattle.bits.proofs.Digits.{value-lt}
use Rattle.bits.proofs.Bytes.{length-unpack}
use Rattle.bits.specs.Order.{value, unpack, number, from_bits}
use lib.Seq.{drop-drop, length-take-le}
use lib.ListN.{length, take, drop, length-drop}
use Prim.Native.Nat.{ℕ, suc, ◌+◌, ◌-◌, ◌*◌, ◌/◌, ◌^◌, ◌≤◌, ◌<◌, ◌%◌}
use lib.Pow.{pow_mono}
use mathlib.Core.List.{List}
use mathlib.Core.Bool.{Bool}
use mathlib.Core.Path.{◌≡◌, ap, ◌∙◌}
use native.Mathlib.Omega.{arith}
use Rattle.bits.proofs.field.read.Goals as goal

-- a turn, from i to i - 1
module _ (u : List Bool) (at q i r v : ℕ) (pos : 0 < i) (in-q : i ≤ q) (width : q * 8 + r ≤ 64) (long : at + (q * 8 + r) ≤ length u) (e : v ≡ number (q - i) r (drop (at + i * 8) u)) where
  below : v < 2 ^ 56
  below =
      let n : (q - i) * 8 + r ≤ 56 = omega arith in
      let p : 2 ^ ((q - i) * 8 + r) ≤ 2 ^ 56 = pow_mono n in
      let l : number (q - i) r (drop (at + i * 8) u) < 2 ^ ((q - i) * 8 + r) = number_lt (q - i) r (drop (at + i * 8) u) (rw length-drop (omega arith)) in
      omega arith

  turn : (o : ℕ) → o ≡ value (take 8 (drop (at + (i - 1) * 8) u)) → v * 256 + o ≡ number (q - (i - 1)) r (drop (at + (i - 1) * 8) u)
  unfolding number
  turn o f =
      let k : q - (i - 1) ≡ suc (q - i) = omega arith in
      let j : at + (i - 1) * 8 + 8 ≡ at + i * 8 = omega arith in
      let d : drop 8 (drop (at + (i - 1) * 8) u) ≡ drop (at + i * 8) u = drop-drop 8 (at + (i - 1) * 8) u ∙ ap (λ (n : ℕ). drop n u) j in
      rw (k, d) (omega arith)

octet-lt : (u : List Bool) (at o : ℕ) → at + 8 ≤ length u → o ≡ value (take 8 (drop at u)) → o < 256
octet-lt u at o h e =
    let l : length (take 8 (drop at u)) ≡ 8 = length-take-le 8 (drop at u) (rw length-drop (omega arith)) in
    let v : value (take 8 (drop at u)) < 2 ^ 8 = rw l at (value-lt (take 8 (drop at u))) in
    omega arith

start : (q r v : ℕ) (d : List Bool) → v ≡ value (take r d) → v ≡ number (q - q) r d
unfolding number
start q r v d e = let z : q - q ≡ 0 = omega arith in rw z e

end : (u : List Bool) (at w i v : ℕ) → i ≡ 0 → v ≡ number (w / 8 - i) (w % 8) (drop (at + i * 8) u) → v ≡ from_bits w (drop at u)
unfolding from_bits
end u at w i v z e =
    let a : w / 8 - i ≡ w / 8 = omega arith in
    let b : at + i * 8 ≡ at = omega arith in
    rw (← b, ← a) e

pub loop-i-init : goal.loop-i-init
loop-i-init c =
    let a = c.args in
    start (a.w / 8) (a.w % 8) c.octet-v.result (drop (a.at + a.w / 8 * 8) (unpack a.s.now)) c.octet-v.ensures

pub overflow_mul-v : goal.overflow_mul-v
overflow_mul-v c =
    let a = c.args in
    let b : c.loop-i.v < 2 ^ 56 = below (unpack a.s.now) a.at (a.w / 8) c.loop-i.i (a.w % 8) c.loop-i.v (omega arith) (omega arith) (omega arith) (rw length-unpack (omega arith)) c.loop-i.invariant in
    omega arith

pub overflow_add-v : goal.overflow_add-v
overflow_add-v c =
    let a = c.args in
    let u = unpack a.s.now in
    let b : c.loop-i.v < 2 ^ 56 = below u a.at (a.w / 8) c.loop-i.i (a.w % 8) c.loop-i.v (omega arith) (omega arith) (omega arith) (rw length-unpack (omega arith)) c.loop-i.invariant in
    let o : c.octet.result < 256 = octet-lt u (a.at + (c.loop-i.i - 1) * 8) c.octet.result (rw length-unpack (omega arith)) c.octet.ensures in
    omega arith

pub loop-i-preserved : goal.loop-i-preserved
loop-i-preserved c =
    let a = c.args in
    turn (unpack a.s.now) a.at (a.w / 8) c.loop-i.i (a.w % 8) c.loop-i.v (omega arith) (omega arith) (omega arith) (rw length-unpack (omega arith)) c.loop-i.invariant c.octet.result c.octet.ensures

pub returns : goal.returns
returns c =
    let a = c.args in
    end (unpack a.s.now) a.at a.w c.loop-i.i c.loop-i.v (omega arith) c.loop-i.invariant
