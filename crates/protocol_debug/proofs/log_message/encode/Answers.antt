-- `log_message::encode` meets its contract: 17, 8 or a message.
use mathlib.Core.Path.{refl, sym, ◌∙◌}
use Prim.Native.Nat.{◌+◌}
use native.Mathlib.Omega.{arith}
use lib.ListN.{length}
use Rattle.bits.specs.Order.{Octets}
use Rattle.bits.proofs.Octets.{octets-all}
use Rattle.shape.proofs.CastFacts.{number-given}
use Rattle.shape.proofs.Writing.{refuse-17, refuse-8, write-all}
use Rattle.protocol_debug.proofs.LogMessageFacts.{five, size, fit, stored}
use Rattle.protocol_debug.specs.LogMessage.{log_message}
use Rattle.protocol_debug.proofs.log_message.encode.Goals as goal

pub returns-then-not-fits : goal.returns-then-not-fits
returns-then-not-fits c =
    let a = c.args in
    let xs = a.source.now in
    let ys = a.text.now in
    let o : Octets xs = octets-all xs (λ i. omega (arith, c.shared_slice_known-1.given i)) in
    let q : Octets ys = octets-all ys (λ i. omega (arith, c.shared_slice_known-2-1.given i)) in
    refuse-17 log_message (a.level, (xs, ys)) a.out.now refl (sym (fit a.level xs ys o q) ∙ c.if-not-fits.true)

pub returns-then-out-n : goal.returns-then-out-n
returns-then-out-n c =
    let a = c.args in
    let xs = a.source.now in
    let ys = a.text.now in
    let o : Octets xs = octets-all xs (λ i. omega (arith, c.shared_slice_known-1.given i)) in
    let q : Octets ys = octets-all ys (λ i. omega (arith, c.shared_slice_known-2-1.given i)) in
    refuse-8 log_message (a.level, (xs, ys)) a.out.now refl (sym (fit a.level xs ys o q) ∙ c.if-not-fits.false) (1 + length xs + length ys)
    (size a.level xs ys) c.if-out-n.true

pub write-requires-2 : goal.write-requires-2
write-requires-2 c = (omega (arith, five, c.width.ensures), (omega arith, omega (arith, five, c.width.ensures)))

pub returns : goal.returns
returns c =
    let a = c.args in
    let xs = a.source.now in
    let ys = a.text.now in
    let o : Octets xs = octets-all xs (λ i. omega (arith, c.shared_slice_known-1.given i)) in
    let q : Octets ys = octets-all ys (λ i. omega (arith, c.shared_slice_known-2-1.given i)) in
    write-all log_message (a.level, (xs, ys)) a.out.now refl (sym (fit a.level xs ys o q) ∙ c.if-not-fits.false) (1 + length xs + length ys)
    (size a.level xs ys)
    (octets-all a.out.now (λ i. omega (arith, c.slice_known-1.given i))) c.if-out-n.false c.write_bytes-2.new.s
    (stored a.level xs ys c.width.result c.width.ensures a.out.now c.write.new.s c.write-2.new.s c.write_bytes.new.s c.write_bytes-2.new.s (omega (arith, c.if-out-n.false))
    (number-given a.out.now c.write.new.s 0 3 a.level c.ranges.level c.write.ensures) c.write-2.ensures c.write_bytes.ensures c.write_bytes-2.ensures)
