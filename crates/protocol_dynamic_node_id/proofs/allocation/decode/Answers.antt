-- `allocation::decode` meets its contract: 15, 16 or an allocation.
use mathlib.Core.List.{List}
use mathlib.Core.Path.{sym, ap, ◌∙◌}
use Prim.Native.Nat.{ℕ}
use native.Mathlib.Omega.{arith}
use lib.Dec.{lit≤}
use lib.ListN.{length}
use Rattle.bits.proofs.Octets.{octets-all}
use Rattle.shape.specs.Answer.{got, numbered}
use Rattle.shape.proofs.CastFacts.{number_read}
use Rattle.protocol_dynamic_node_id.proofs.AllocationFacts.{short, long, held, made}
use Rattle.protocol_dynamic_node_id.specs.declared.allocation.Allocation.{Allocation}
use Rattle.protocol_dynamic_node_id.proofs.allocation.decode.Goals as goal

pub returns-then-payload-lt1 : goal.returns-then-payload-lt1
returns-then-payload-lt1 c =
    let s = c.args.payload.now in
    sym (short s (octets-all s (λ i. omega (arith, c.shared_slice_known-1.given i))) (omega arith))

pub returns-then-len-gt16 : goal.returns-then-len-gt16
returns-then-len-gt16 c =
    let s = c.args.payload.now in
    let e = ap (λ (l : List ℕ). length l) c.unique_id-len.ensures in
    sym (long s (octets-all s (λ i. omega (arith, c.shared_slice_known-1.given i))) (omega arith) (omega (arith, e)))

pub returns : goal.returns
returns c =
    let s = c.args.payload.now in
    let e = ap (λ (l : List ℕ). length l) c.unique_id-len.ensures in
    ap (λ (x : Allocation). numbered (got x)) (made (number_read s 0 7 (lit≤ tt) (omega arith) c.read.result c.read.ensures)
    (number_read s 7 1 (lit≤ tt) (omega arith) c.read-2.result c.read-2.ensures) e)
    ∙ sym (held s (octets-all s (λ i. omega (arith, c.shared_slice_known-1.given i))) (omega arith) (omega (arith, e)))
