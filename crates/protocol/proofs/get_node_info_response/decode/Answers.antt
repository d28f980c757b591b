-- `get_node_info_response::decode` meets its contract: 15, 16, 17 or a response.
use mathlib.Core.List.{List}
use mathlib.Core.Path.{sym, ap, ◌∙◌}
use Prim.Native.Nat.{ℕ}
use native.Mathlib.Omega.{arith}
use lib.ListN.{length}
use Rattle.bits.proofs.Octets.{octets-all}
use Rattle.shape.specs.Answer.{got, numbered}
use Rattle.shape.proofs.SignedFacts.{is}
use Rattle.protocol.proofs.ResponseReadFacts.{below, cut, long, bad-name, held, certificate-len, made}
use Rattle.protocol.specs.Name.{is_name}
use Rattle.protocol.specs.declared.get_node_info_response.Response.{Response}
use Rattle.protocol.proofs.get_node_info_response.decode.Goals as goal

pub overflow_add-at : goal.overflow_add-at
overflow_add-at c = omega (arith, c.certificate_length-at.ensures, below c.args.payload.now)

pub returns-then-payload-at : goal.returns-then-payload-at
returns-then-payload-at c =
    let s = c.args.payload.now in
    sym (cut s (octets-all s (λ i. omega (arith, c.shared_slice_known-1.given i))) (omega (arith, c.certificate_length-at.ensures)))

pub returns-then-len-gt80 : goal.returns-then-len-gt80
returns-then-len-gt80 c =
    let s = c.args.payload.now in
    let e = ap (λ (l : List ℕ). length l) c.name-n.ensures in
    sym (long s (octets-all s (λ i. omega (arith, c.shared_slice_known-1.given i))) (omega (arith, c.certificate_length-at.ensures)) (omega (arith, e)))

pub returns-then-not-is_name : goal.returns-then-not-is_name
returns-then-not-is_name c =
    let s = c.args.payload.now in
    let e = ap (λ (l : List ℕ). length l) c.name-n.ensures in
    let b = sym (c.is_name.ensures ∙ ap (λ (l : List ℕ). is_name l) c.name-n.ensures) ∙ c.if-not-is_name.true in
    sym (bad-name s (octets-all s (λ i. omega (arith, c.shared_slice_known-1.given i))) (omega (arith, c.certificate_length-at.ensures)) (omega (arith, e)) b)

pub returns : goal.returns
returns c =
    let s = c.args.payload.now in
    let o = octets-all s (λ i. omega (arith, c.shared_slice_known-1.given i)) in
    let e = ap (λ (l : List ℕ). length l) c.name-n.ensures in
    let b = sym (c.is_name.ensures ∙ ap (λ (l : List ℕ). is_name l) c.name-n.ensures) ∙ c.if-not-is_name.false in
    let l = certificate-len s o (omega (arith, c.certificate_length-at.ensures)) in
    ap (λ (x : Response). numbered (got x))
    (made s o _ _ _ _ _ _ _ c.read_numbers-m.ensures (is _ (record { sfits = c.struct_told-1.given.1.1.0.1 })) (is _ (record { sfits = c.struct_told-1.given.1.1.1.0.1 }))
    (ap (λ (l : List ℕ). length l) c.unique_id.ensures) (ap (λ (l : List ℕ). length l) c.certificate_of_authenticity.ensures)
    (omega (arith, l, c.certificate_length-at.ensures)) e)
    ∙ sym (held s o (omega (arith, c.certificate_length-at.ensures)) (omega (arith, e)) b)
