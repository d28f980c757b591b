-- `get_node_info_response::encode` meets its contract: 17, 8 or a response.
use mathlib.Core.Path.{refl, sym, ◌∙◌}
use Prim.Native.Nat.{◌+◌}
use native.Mathlib.Omega.{arith}
use lib.ListN.{length}
use Rattle.bits.proofs.Octets.{octets-all}
use Rattle.shape.specs.Shape.{Values}
use Rattle.shape.proofs.Writing.{refuse-17, refuse-8, write-all}
use Rattle.protocol.proofs.ResponseWriteFacts.{whole-fits, sizes, size, stored}
use Rattle.protocol.specs.GetNodeInfoResponse.{lists, response, number_values}
use Rattle.protocol.proofs.get_node_info_response.encode.Goals as goal

pub returns-then-not-lists_fit : goal.returns-then-not-lists_fit
returns-then-not-lists_fit c =
    let a = c.args in
    let v : Values lists = (a.unique_id.now, (a.certificate_of_authenticity.now, a.name.now)) in
    refuse-17 response (number_values a.m lists v) a.out.now refl
    (whole-fits a.m v c.well_formed.0.1.1.1.0.1.1.1.1.1.1.0.1 ∙ sym c.lists_fit.ensures ∙ c.if-not-lists_fit.true)

pub overflow_add-n-2 : goal.overflow_add-n-2
overflow_add-n-2 c =
    let a = c.args in
    let z = sizes a.unique_id.now a.certificate_of_authenticity.now a.name.now (sym c.lists_fit.ensures ∙ c.if-not-lists_fit.false) in
    omega (arith, z.certificate, z.name)

pub returns-then-out-n : goal.returns-then-out-n
returns-then-out-n c =
    let a = c.args in
    let t = a.certificate_of_authenticity.now in
    let n = a.name.now in
    let v : Values lists = (a.unique_id.now, (t, n)) in
    let e = sym c.lists_fit.ensures ∙ c.if-not-lists_fit.false in
    refuse-8 response (number_values a.m lists v) a.out.now refl (whole-fits a.m v c.well_formed.0.1.1.1.0.1.1.1.1.1.1.0.1 ∙ e)
    (41 + length t + length n) (size a.m a.unique_id.now t n (sizes a.unique_id.now t n e).id) c.if-out-n.true

pub write_lists-requires : goal.write_lists-requires
write_lists-requires c =
    let a = c.args in
    let z = sizes a.unique_id.now a.certificate_of_authenticity.now a.name.now (sym c.lists_fit.ensures ∙ c.if-not-lists_fit.false) in
    (z.id, omega (arith, c.if-out-n.false, c.write_numbers.auto))

pub returns : goal.returns
returns c =
    let a = c.args in
    let t = a.certificate_of_authenticity.now in
    let n = a.name.now in
    let v : Values lists = (a.unique_id.now, (t, n)) in
    let e = sym c.lists_fit.ensures ∙ c.if-not-lists_fit.false in
    let z = sizes a.unique_id.now t n e in
    write-all response (number_values a.m lists v) a.out.now refl (whole-fits a.m v c.well_formed.0.1.1.1.0.1.1.1.1.1.1.0.1 ∙ e)
    (41 + length t + length n) (size a.m a.unique_id.now t n z.id) (octets-all a.out.now (λ i. omega (arith, c.slice_known-1.given i))) c.if-out-n.false
    c.write_lists.new.out
    (stored a.m a.unique_id.now t n z.id a.out.now c.write_numbers.new.out c.write_lists.new.out (omega (arith, c.if-out-n.false)) c.write_numbers.ensures c.write_lists.ensures)
