-- `get_node_info_response::lists_fit` meets its contract, list by list.
use mathlib.Core.Path.{◌∙◌}
use native.Mathlib.Omega.{arith}
use Rattle.bits.proofs.Octets.{octets-all}
use Rattle.protocol.proofs.ResponseWriteFacts.{no-id, no-certificate, no_name, by_name}
use Rattle.protocol.proofs.get_node_info_response.lists_fit.Goals as goal

pub returns-then-unique_id-ne16 : goal.returns-then-unique_id-ne16
returns-then-unique_id-ne16 c =
    let a = c.args in
    no-id a.unique_id.now a.certificate.now a.name.now c.if-unique_id-ne16.true

pub returns-then-certificate-gt255 : goal.returns-then-certificate-gt255
returns-then-certificate-gt255 c =
    let a = c.args in
    let u = a.unique_id.now in
    no-certificate u a.certificate.now a.name.now (octets-all u (λ i. omega (arith, c.shared_slice_known-1.given i))) c.if-unique_id-ne16.false c.if-certificate-gt255.true

pub returns-then-name-gt80 : goal.returns-then-name-gt80
returns-then-name-gt80 c =
    let a = c.args in
    let u = a.unique_id.now in
    let t = a.certificate.now in
    no_name u t a.name.now (octets-all u (λ i. omega (arith, c.shared_slice_known-1.given i))) c.if-unique_id-ne16.false
    (octets-all t (λ i. omega (arith, c.shared_slice_known-2-1.given i))) c.if-certificate-gt255.false c.if-name-gt80.true

pub returns : goal.returns
returns c =
    let a = c.args in
    let u = a.unique_id.now in
    let t = a.certificate.now in
    let n = a.name.now in
    c.is_name.ensures
    ∙ by_name u t n (octets-all u (λ i. omega (arith, c.shared_slice_known-1.given i))) c.if-unique_id-ne16.false
    (octets-all t (λ i. omega (arith, c.shared_slice_known-2-1.given i))) c.if-certificate-gt255.false
    (octets-all n (λ i. omega (arith, c.shared_slice_known-3-1.given i))) c.if-name-gt80.false
