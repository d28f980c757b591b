-- `allocation::encode` meets its contract: 17, 8 or an allocation.
use mathlib.Core.Path.{refl, sym, ◌∙◌}
use Prim.Native.Nat.{◌+◌}
use native.Mathlib.Omega.{arith}
use borrow.Author.Tests.{le-leb, lt-leb}
use lib.ListN.{length}
use Rattle.bits.specs.Order.{Octets}
use Rattle.bits.proofs.Octets.{octets-all}
use Rattle.shape.proofs.CastFacts.{number-given}
use Rattle.shape.proofs.Writing.{refuse-17, refuse-8, write-all}
use Rattle.protocol_dynamic_node_id.proofs.AllocationFacts.{size, fit, stored}
use Rattle.protocol_dynamic_node_id.specs.Allocation.{allocation}
use Rattle.protocol_dynamic_node_id.proofs.allocation.encode.Goals as goal

pub returns-then-unique_id-gt16 : goal.returns-then-unique_id-gt16
returns-then-unique_id-gt16 c =
    let a = c.args in
    let u = a.unique_id.now in
    let o : Octets u = octets-all u (λ i. omega (arith, c.shared_slice_known-1.given i)) in
    refuse-17 allocation (a.node_id, (a.first_part_of_unique_id, u)) a.out.now refl (sym (fit a.node_id a.first_part_of_unique_id u o) ∙ lt-leb (length u) 16 c.if-unique_id-gt16.true)

pub returns-then-out-n : goal.returns-then-out-n
returns-then-out-n c =
    let a = c.args in
    let u = a.unique_id.now in
    let o : Octets u = octets-all u (λ i. omega (arith, c.shared_slice_known-1.given i)) in
    refuse-8 allocation (a.node_id, (a.first_part_of_unique_id, u)) a.out.now refl (sym (fit a.node_id a.first_part_of_unique_id u o) ∙ le-leb (length u) 16 c.if-unique_id-gt16.false) (1 + length u)
    (size a.node_id a.first_part_of_unique_id u) c.if-out-n.true

pub returns : goal.returns
returns c =
    let a = c.args in
    let u = a.unique_id.now in
    let o : Octets u = octets-all u (λ i. omega (arith, c.shared_slice_known-1.given i)) in
    write-all allocation (a.node_id, (a.first_part_of_unique_id, u)) a.out.now refl (sym (fit a.node_id a.first_part_of_unique_id u o) ∙ le-leb (length u) 16 c.if-unique_id-gt16.false) (1 + length u)
    (size a.node_id a.first_part_of_unique_id u) (octets-all a.out.now (λ i. omega (arith, c.slice_known-1.given i))) c.if-out-n.false c.write_bytes.new.s
    (stored a.node_id a.first_part_of_unique_id u a.out.now c.write.new.s c.write-2.new.s c.write_bytes.new.s (omega (arith, c.if-out-n.false))
    (number-given a.out.now c.write.new.s 0 7 a.node_id c.ranges.node_id c.write.ensures)
    (number-given c.write.new.s c.write-2.new.s 7 1 a.first_part_of_unique_id c.ranges.first_part_of_unique_id c.write-2.ensures) c.write_bytes.ensures)
