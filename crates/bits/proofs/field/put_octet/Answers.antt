-- `field::put_octet` meets its contract: its bits go into one byte or into two.
use mathlib.Core.Bool.{Bool}
use Rattle.bits.proofs.Window.{patch-one, patch-two}
use Rattle.bits.proofs.Bytes.{bytes-unpack}
use Rattle.bits.proofs.Octets.{octets-all}
use Rattle.bits.proofs.Digits.{digits-mod-pow}
use Rattle.bits.specs.Order.{Octets, digits, store}
use Rattle.bits.specs.inside.Window.{patched}
use lib.ListN.{length, get_or, set, take-append-drop}
use Prim.Native.Nat.{ℕ, suc, ◌+◌, ◌-◌, ◌*◌, ◌/◌, ◌^◌, ◌<◌, ◌%◌}
use lib.Pow.{pow_pos}
use native.Mathlib.Nat.{mod-lt, add-zero}
use mathlib.Core.List.{List}
use mathlib.Core.Path.{◌≡◌, refl, sym, ap, ◌∙◌}
use native.Mathlib.Numerals.{add-one}
use native.Mathlib.Omega.{arith}
use Rattle.bits.proofs.field.put_octet.Goals as goal

none : (m : List ℕ) (at k v : ℕ) → Octets m → k ≡ 0 → m ≡ store m at (digits k v)
unfolding store digits
none m at k v o e =
    rw (e, add-zero, take-append-drop) (sym (bytes-unpack (length m) m refl o))

low : (n v k : ℕ) → n ≡ v % 2 ^ k → n < 2 ^ k
low n v k e = omega (arith, mod-lt v (pow_pos k))

digits_low : (n v k : ℕ) → n ≡ v % 2 ^ k → digits k n ≡ digits k v
digits_low n v k e = ap (λ (x : ℕ). digits k x) e ∙ digits-mod-pow k v

pub returns-then-k-eq0 : goal.returns-then-k-eq0
returns-then-k-eq0 c =
    let a = c.args in
    none a.s.now a.at a.k a.v (octets-all a.s.now (λ i. omega (arith, c.slice_known-1.given i))) c.if-k-eq0.true

pub returns-then-end-le8 : goal.returns-then-end-le8
returns-then-end-le8 c =
    let a = c.args in
    let s = a.s.now in
    let o : Octets s = octets-all s (λ i. omega (arith, c.slice_known-1.given i)) in
    patch-one s a.at a.k c.lowest-low.result o (omega arith) (omega arith) (omega arith) (low c.lowest-low.result a.v a.k c.lowest-low.ensures) c.patch-x.result
    (c.patch-x.ensures ∙ ap (λ (b : ℕ). patched b (8 - (a.at % 8 + a.k)) a.k c.lowest-low.result) c.wide.ensures)
    ∙ ap (λ (d : List Bool). store s a.at d) (digits_low c.lowest-low.result a.v a.k c.lowest-low.ensures)

pub returns : goal.returns
returns c =
    let a = c.args in
    let s = a.s.now in
    let i = a.at / 8 in
    let g = c.slice_known-1.given in
    let o : Octets s = octets-all s (λ j. omega (arith, g j)) in
    ap (λ (j : ℕ). set (set s i (c.patch-x-2.result / 256 % 256)) j (c.patch-x-2.result % 256)) (add-one i)
    ∙ patch-two s a.at a.k c.lowest-low.result o (omega arith) (omega arith) (omega arith) (low c.lowest-low.result a.v a.k c.lowest-low.ensures) c.patch-x-2.result
    (c.patch-x-2.ensures ∙ ap (λ (b : ℕ). patched b (16 - (a.at % 8 + a.k)) a.k c.lowest-low.result) (c.pair.ensures ∙ ap (λ (n : ℕ). get_or s i 0 * 256 + get_or s n 0) (add-one i)))
    (omega (arith, g (suc i)))
    ∙ ap (λ (d : List Bool). store s a.at d) (digits_low c.lowest-low.result a.v a.k c.lowest-low.ensures)
