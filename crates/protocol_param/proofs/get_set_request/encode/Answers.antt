-- `get_set_request::encode` meets its contract: 27, 17, 8 or a request.
use mathlib.Core.Bool.{Bool, ◌&&◌}
use mathlib.Core.Path.{sym, ap, ◌∙◌}
use Prim.Native.Nat.{ℕ, ◌+◌, ◌*◌, ◌≤◌}
use native.Mathlib.Omega.{arith}
use borrow.Author.Tests.{leb-true}
use lib.Dec.{leb, lit≤}
use lib.ListN.{length}
use Rattle.bits.specs.Order.{unpack, store}
use Rattle.bits.proofs.Octets.{octets-all}
use Rattle.shape.specs.Answer.{got, numbered}
use Rattle.shape.proofs.CastFacts.{number-given}
use Rattle.shape.proofs.Fields.{and_left, and_right}
use Rattle.shape.proofs.Writing.{refuse-27, refuse-17, refuse-8, write-all}
use Rattle.protocol_param.proofs.WriteFacts.{held, asked, size_fits, request-tags, request-fits, request-size, request-stored}
use Rattle.protocol_param.proofs.ValueFacts.{size-some}
use Rattle.protocol_param.specs.Value.{size_of}
use Rattle.protocol_param.specs.inside.Value.{text_fits}
use Rattle.protocol_param.specs.GetSetRequest.{request}
use Rattle.protocol_param.proofs.get_set_request.encode.Goals as goal

pub returns-then-not-known : goal.returns-then-not-known
returns-then-not-known c =
    let a = c.args in
    let text = a.string_value.now in
    let name = a.name.now in
    let m = a.out.now in
    refuse-27 request (asked a.index a.v text name) m (request-tags a.index a.v text name ∙ sym c.known-known.ensures ∙ c.if-not-known.true)

pub returns-then-not-fits : goal.returns-then-not-fits
returns-then-not-fits c =
    let a = c.args in
    let text = a.string_value.now in
    let name = a.name.now in
    let m = a.out.now in
    let o = octets-all text (λ i. omega (arith, c.shared_slice_known-1.given i)) in
    let r = octets-all name (λ i. omega (arith, c.shared_slice_known-2-1.given i)) in
    refuse-17 request (asked a.index a.v text name) m (request-tags a.index a.v text name ∙ sym c.known-known.ensures ∙ c.if-not-known.false)
    (request-fits a.index a.v text name (held a.v c.well_formed.1.0) o r ∙ (sym (ap (λ (x : Bool). x && leb (length name) 92) c.fits.ensures) ∙ c.if-not-fits.true))

pub overflow_add-at : goal.overflow_add-at
overflow_add-at c =
    let a = c.args in
    let text = a.string_value.now in
    let name = a.name.now in
    let m = a.out.now in
    omega (arith, c.written_size-at.ensures, size_fits a.v text (and_left (text_fits a.v text) (leb (length name) 92) (sym (ap (λ (x : Bool). x && leb (length name) 92) c.fits.ensures) ∙ c.if-not-fits.false)))

pub overflow_add-n : goal.overflow_add-n
overflow_add-n c =
    let a = c.args in
    let text = a.string_value.now in
    let name = a.name.now in
    let m = a.out.now in
    omega (arith, c.written_size-at.ensures, size_fits a.v text (and_left (text_fits a.v text) (leb (length name) 92) (sym (ap (λ (x : Bool). x && leb (length name) 92) c.fits.ensures) ∙ c.if-not-fits.false)), leb-true (length name) 92 (and_right (text_fits a.v text) (leb (length name) 92) (sym (ap (λ (x : Bool). x && leb (length name) 92) c.fits.ensures) ∙ c.if-not-fits.false)))

pub returns-then-out-n : goal.returns-then-out-n
returns-then-out-n c =
    let a = c.args in
    let text = a.string_value.now in
    let name = a.name.now in
    let m = a.out.now in
    let o = octets-all text (λ i. omega (arith, c.shared_slice_known-1.given i)) in
    let r = octets-all name (λ i. omega (arith, c.shared_slice_known-2-1.given i)) in
    refuse-8 request (asked a.index a.v text name) m (request-tags a.index a.v text name ∙ sym c.known-known.ensures ∙ c.if-not-known.false)
    (request-fits a.index a.v text name (held a.v c.well_formed.1.0) o r ∙ (sym (ap (λ (x : Bool). x && leb (length name) 92) c.fits.ensures) ∙ c.if-not-fits.false))
    (1 + size_of a.v (length text) + length name) (request-size a.index a.v text name) (omega (arith, c.written_size-at.ensures, c.if-out-n.true))

pub write-requires : goal.write-requires
write-requires c =
    (lit≤ tt, (lit≤ tt, (omega arith, omega (arith, c.if-out-n.false, c.written_size-at.ensures, size-some c.args.v (length c.args.string_value.now)))))

pub returns : goal.returns
returns c =
    let a = c.args in
    let text = a.string_value.now in
    let name = a.name.now in
    let m = a.out.now in
    let o = octets-all text (λ i. omega (arith, c.shared_slice_known-1.given i)) in
    let r = octets-all name (λ i. omega (arith, c.shared_slice_known-2-1.given i)) in
    let l : (1 + size_of a.v (length text) + length name) ≤ length m = omega (arith, c.written_size-at.ensures, c.if-out-n.false) in
    ap (λ (k : ℕ). (numbered (got (1 + k + length name)), c.write_bytes.new.s)) c.written_size-at.ensures
    ∙ write-all request (asked a.index a.v text name) m (request-tags a.index a.v text name ∙ sym c.known-known.ensures ∙ c.if-not-known.false)
    (request-fits a.index a.v text name (held a.v c.well_formed.1.0) o r ∙ (sym (ap (λ (x : Bool). x && leb (length name) 92) c.fits.ensures) ∙ c.if-not-fits.false))
    (1 + size_of a.v (length text) + length name) (request-size a.index a.v text name) (octets-all m (λ i. omega (arith, c.slice_known-1.given i))) l c.write_bytes.new.s
    (request-stored a.index a.v text name m c.write.new.s c.write-2.new.out c.write_bytes.new.s l
    (number-given m c.write.new.s 0 13 a.index c.ranges.index c.write.ensures) c.write-2.ensures
    (c.write_bytes.ensures ∙ ap (λ (k : ℕ). store c.write-2.new.out ((1 + k) * 8) (unpack name)) c.written_size-at.ensures))
