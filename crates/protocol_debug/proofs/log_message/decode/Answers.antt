-- `log_message::decode` meets its contract: 15, 16 or a message.
use mathlib.Core.List.{List}
use mathlib.Core.Path.{sym, ap, ◌∙◌}
use Prim.Native.Nat.{ℕ}
use native.Mathlib.Omega.{arith}
use lib.Dec.{lit≤}
use lib.ListN.{length}
use Rattle.bits.proofs.Octets.{octets-all}
use Rattle.shape.specs.Answer.{got, numbered}
use Rattle.shape.proofs.CastFacts.{number_read}
use Rattle.protocol_debug.proofs.LogMessageFacts.{below, cut, long, held, source-len, made}
use Rattle.protocol_debug.specs.declared.log_message.LogMessage.{LogMessage}
use Rattle.protocol_debug.proofs.log_message.decode.Goals as goal

pub overflow_add-at : goal.overflow_add-at
overflow_add-at c = omega (arith, c.source_length-at.ensures, below c.args.payload.now)

pub returns-then-payload-at : goal.returns-then-payload-at
returns-then-payload-at c =
    let s = c.args.payload.now in
    sym (cut s (octets-all s (λ i. omega (arith, c.shared_slice_known-1.given i))) (omega (arith, c.source_length-at.ensures)))

pub returns-then-len-gt90 : goal.returns-then-len-gt90
returns-then-len-gt90 c =
    let s = c.args.payload.now in
    let e = ap (λ (l : List ℕ). length l) c.text-len.ensures in
    sym (long s (octets-all s (λ i. omega (arith, c.shared_slice_known-1.given i))) (omega (arith, c.source_length-at.ensures)) (omega (arith, e)))

pub returns : goal.returns
returns c =
    let s = c.args.payload.now in
    let o = octets-all s (λ i. omega (arith, c.shared_slice_known-1.given i)) in
    let e = ap (λ (l : List ℕ). length l) c.text-len.ensures in
    let l = source-len s o (omega (arith, c.source_length-at.ensures)) in
    ap (λ (x : LogMessage). numbered (got x))
    (made (number_read s 0 3 (lit≤ tt) (omega (arith, c.source_length-at.ensures)) c.read.result c.read.ensures) (ap (λ (l : List ℕ). length l) c.source.ensures) (omega (arith, l, c.source_length-at.ensures)) e)
    ∙ sym (held s o (omega (arith, c.source_length-at.ensures)) (omega (arith, e)))
