-- `key_value::encode` meets its contract: 17, 8 or a value and its key.
use mathlib.Core.Path.{refl, sym, ◌∙◌}
use Prim.Native.Nat.{◌+◌}
use native.Mathlib.Omega.{arith}
use borrow.Author.Tests.{le-leb, lt-leb}
use lib.ListN.{length}
use Rattle.bits.specs.Order.{Octets}
use Rattle.bits.proofs.Octets.{octets-all}
use Rattle.shape.proofs.Writing.{refuse-17, refuse-8, write-all}
use Rattle.protocol_debug.proofs.KeyValueFacts.{size, fit, stored}
use Rattle.protocol_debug.specs.KeyValue.{key_value}
use Rattle.protocol_debug.proofs.key_value.encode.Goals as goal

pub returns-then-key-gt58 : goal.returns-then-key-gt58
returns-then-key-gt58 c =
    let a = c.args in
    let o : Octets a.key.now = octets-all a.key.now (λ i. omega (arith, c.shared_slice_known-1.given i)) in
    refuse-17 key_value (a.value, a.key.now) a.out.now refl (sym (fit a.value a.key.now c.ranges.value.fits o) ∙ lt-leb (length a.key.now) 58 c.if-key-gt58.true)

pub returns-then-out-n : goal.returns-then-out-n
returns-then-out-n c =
    let a = c.args in
    let o : Octets a.key.now = octets-all a.key.now (λ i. omega (arith, c.shared_slice_known-1.given i)) in
    refuse-8 key_value (a.value, a.key.now) a.out.now refl (sym (fit a.value a.key.now c.ranges.value.fits o) ∙ le-leb (length a.key.now) 58 c.if-key-gt58.false) (4 + length a.key.now)
    (size a.value a.key.now) c.if-out-n.true

pub returns : goal.returns
returns c =
    let a = c.args in
    let o : Octets a.key.now = octets-all a.key.now (λ i. omega (arith, c.shared_slice_known-1.given i)) in
    write-all key_value (a.value, a.key.now) a.out.now refl (sym (fit a.value a.key.now c.ranges.value.fits o) ∙ le-leb (length a.key.now) 58 c.if-key-gt58.false) (4 + length a.key.now)
    (size a.value a.key.now)
    (octets-all a.out.now (λ i. omega (arith, c.slice_known-1.given i))) c.if-out-n.false c.write_bytes.new.s
    (stored a.value a.key.now a.out.now c.write.new.s c.write_bytes.new.s (omega (arith, c.if-out-n.false)) c.write.ensures c.write_bytes.ensures)
