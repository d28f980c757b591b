-- `key_value::decode` meets its contract: 15, 16 or a value and its key.
use mathlib.Core.List.{List}
use mathlib.Core.Path.{sym, ap, ◌∙◌}
use Prim.Native.Nat.{ℕ}
use native.Mathlib.Omega.{arith}
use lib.ListN.{length}
use Rattle.bits.specs.Order.{unpack}
use Rattle.bits.proofs.Bytes.{length-unpack}
use Rattle.bits.proofs.Numbers.{from_bits-lt}
use Rattle.bits.proofs.Octets.{octets-all}
use Rattle.shape.specs.Answer.{got, numbered}
use Rattle.protocol_debug.proofs.KeyValueFacts.{short, long, held, made}
use Rattle.protocol_debug.specs.declared.key_value.KeyValue.{KeyValue}
use Rattle.protocol_debug.proofs.key_value.decode.Goals as goal

pub returns-then-payload-lt4 : goal.returns-then-payload-lt4
returns-then-payload-lt4 c =
    let s = c.args.payload.now in
    sym (short s (octets-all s (λ i. omega (arith, c.shared_slice_known-1.given i))) (omega arith))

pub returns-then-len-gt58 : goal.returns-then-len-gt58
returns-then-len-gt58 c =
    let s = c.args.payload.now in
    let e = ap (λ (l : List ℕ). length l) c.key-len.ensures in
    sym (long s (octets-all s (λ i. omega (arith, c.shared_slice_known-1.given i))) (omega arith) (omega (arith, e)))

pub overflow_cast-result : goal.overflow_cast-result
overflow_cast-result c =
    let s = c.args.payload.now in
    record { fits = omega (arith, c.read.ensures, from_bits-lt 32 (unpack s) (omega (arith, length-unpack s))) }

pub returns : goal.returns
returns c =
    let s = c.args.payload.now in
    let e = ap (λ (l : List ℕ). length l) c.key-len.ensures in
    ap (λ (x : KeyValue). numbered (got x)) (made c.read.ensures e)
    ∙ sym (held s (octets-all s (λ i. omega (arith, c.shared_slice_known-1.given i))) (omega arith) (omega (arith, e)))
