-- `field::write` meets its contract: what is stored and what is still to store are the whole field.
use Rattle.bits.proofs.Bytes.{length-store, store-store}
use Rattle.bits.proofs.Digits.{length_digits}
use Rattle.bits.specs.Order.{digits, octets, to_bits, store}
use lib.ListN.{length}
use Prim.Native.Nat.{ℕ, suc, ◌+◌, ◌-◌, ◌*◌, ◌/◌, ◌≤◌, ◌<◌, ◌%◌}
use mathlib.Core.List.{List}
use mathlib.Core.Path.{◌≡◌, sym, ap, ◌∙◌}
use native.Mathlib.Omega.{arith}
use Rattle.bits.proofs.field.write.Goals as goal

-- what is left to store, after one octet more
turn : (m m' goal : List ℕ) (at q i r x : ℕ) → i < q → at + (q * 8 + r) ≤ length m * 8 → m' ≡ store m (at + i * 8) (digits 8 x) → store m (at + i * 8) (octets (q - i) r x) ≡ goal
    → store m' (at + (i + 1) * 8) (octets (q - (i + 1)) r (x / 256)) ≡ goal
unfolding octets
turn m m' goal at q i r x h l e f =
    let k : q - i ≡ suc (q - (i + 1)) = omega arith in
    let rest = octets (q - (i + 1)) r (x / 256) in
    let j : at + (i + 1) * 8 ≡ at + i * 8 + length (digits 8 x) = omega (arith, length_digits 8 x) in
    ap (λ (n : ℕ). store m' n rest) j ∙ ap (λ (z : List ℕ). store z (at + i * 8 + length (digits 8 x)) rest) e
    ∙ store-store m (at + i * 8) (digits 8 x) rest (omega (arith, length_digits 8 x))
    ∙ ap (λ (n : ℕ). store m (at + i * 8) (octets n r x)) (sym k) ∙ f

last : (m m' goal : List ℕ) (at q i r x : ℕ) → i ≡ q → m' ≡ store m (at + q * 8) (digits r x) → store m (at + i * 8) (octets (q - i) r x) ≡ goal → m' ≡ goal
unfolding octets
last m m' goal at q i r x z e f =
    let k : q - i ≡ 0 = omega arith in
    e ∙ ap (λ (n : ℕ). store m (at + n * 8) (digits r x)) (sym z) ∙ ap (λ (n : ℕ). store m (at + i * 8) (octets n r x)) (sym k) ∙ f

begin : (m : List ℕ) (at q r v : ℕ) → store m (at + 0 * 8) (octets (q - 0) r v) ≡ store m at (octets q r v)
begin m at q r v =
    let a : at + 0 * 8 ≡ at = omega arith in
    let b : q - 0 ≡ q = omega arith in
    rw (a, b)

pub loop-i-preserved : goal.loop-i-preserved
loop-i-preserved c =
    let a = c.args in
    let n = c.loop-i.invariant in
    let e = c.put_octet.ensures in (
      ap (λ (z : List ℕ). length z) e ∙ length-store c.loop-i.s (a.at + c.loop-i.i * 8) (digits 8 c.loop-i.x) ∙ n.0,
      turn c.loop-i.s c.put_octet.new.s (store a.s.now a.at (octets (a.w / 8) (a.w % 8) a.v)) a.at (a.w / 8) c.loop-i.i (a.w % 8) c.loop-i.x (omega arith) (omega arith) e n.1,
    )

pub returns : goal.returns
unfolding to_bits
returns c =
    let a = c.args in
    last c.loop-i.s c.put_octet-2.new.s (store a.s.now a.at (octets (a.w / 8) (a.w % 8) a.v)) a.at (a.w / 8) c.loop-i.i (a.w % 8) c.loop-i.x (omega arith) c.put_octet-2.ensures c.loop-i.invariant.1
