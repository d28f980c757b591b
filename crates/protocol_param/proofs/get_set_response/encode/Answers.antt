-- `get_set_response::encode` meets its contract: 27, 17, 8 or a response.
use mathlib.Core.Bool.{◌&&◌}
use mathlib.Core.Path.{sym, ap, ◌∙◌}
use Prim.Native.Nat.{ℕ, ◌+◌, ◌*◌, ◌≤◌}
use native.Mathlib.Omega.{arith}
use borrow.Author.Tests.{leb-true}
use lib.Dec.{leb}
use lib.ListN.{length}
use Rattle.bits.specs.Order.{unpack, store}
use Rattle.bits.proofs.Octets.{octets-all}
use Rattle.shape.specs.Answer.{got, numbered}
use Rattle.shape.proofs.Fields.{and_left, and_right}
use Rattle.shape.proofs.Writing.{refuse-27, refuse-17, refuse-8, write-all}
use Rattle.protocol_param.proofs.WriteFacts.{held, told, three-tests, size_fits, size_none, response-tags, response-fits, response-size, response-stored}
use Rattle.protocol_param.specs.Value.{size_of}
use Rattle.protocol_param.specs.inside.Value.{text_fits}
use Rattle.protocol_param.specs.GetSetResponse.{response}
use Rattle.protocol_param.proofs.get_set_response.encode.Goals as goal

pub returns-then-not-all_known : goal.returns-then-not-all_known
returns-then-not-all_known c =
    let a = c.args in
    let text = a.string_value.now in
    let other = a.default_string_value.now in
    let name = a.name.now in
    let m = a.out.now in
    let e = three-tests (text_fits a.v text) (text_fits a.default_value other) (leb (length name) 92) c.fits.result c.fits-2.result c.fits.ensures c.fits-2.ensures in
    refuse-27 response (told a.v text a.default_value other a.max_value a.min_value name) m (response-tags a.v text a.default_value other a.max_value a.min_value name ∙ sym c.known-all_known.ensures ∙ c.if-not-all_known.true)

pub returns-then-not-fits : goal.returns-then-not-fits
returns-then-not-fits c =
    let a = c.args in
    let text = a.string_value.now in
    let other = a.default_string_value.now in
    let name = a.name.now in
    let m = a.out.now in
    let e = three-tests (text_fits a.v text) (text_fits a.default_value other) (leb (length name) 92) c.fits.result c.fits-2.result c.fits.ensures c.fits-2.ensures in
    let o = octets-all text (λ i. omega (arith, c.shared_slice_known-1.given i)) in
    let p = octets-all other (λ i. omega (arith, c.shared_slice_known-2-1.given i)) in
    let r = octets-all name (λ i. omega (arith, c.shared_slice_known-3-1.given i)) in
    refuse-17 response (told a.v text a.default_value other a.max_value a.min_value name) m (response-tags a.v text a.default_value other a.max_value a.min_value name ∙ sym c.known-all_known.ensures ∙ c.if-not-all_known.false)
    (response-fits a.v text a.default_value other a.max_value a.min_value name (held a.v c.well_formed.0) o (held a.default_value c.well_formed.1.1.0) p (held a.max_value c.well_formed.1.1.1.1.0) (held a.min_value c.well_formed.1.1.1.1.1.0) r ∙ e ∙ c.if-not-fits.true)

pub values_size-at-requires : goal.values_size-at-requires
values_size-at-requires c =
    let a = c.args in
    let text = a.string_value.now in
    let other = a.default_string_value.now in
    let name = a.name.now in
    let m = a.out.now in
    let e = three-tests (text_fits a.v text) (text_fits a.default_value other) (leb (length name) 92) c.fits.result c.fits-2.result c.fits.ensures c.fits-2.ensures in
    (size_fits a.v text (and_left (text_fits a.v text) (text_fits a.default_value other && leb (length name) 92) (e ∙ c.if-not-fits.false)), size_fits a.default_value other (and_left (text_fits a.default_value other) (leb (length name) 92) (and_right (text_fits a.v text) (text_fits a.default_value other && leb (length name) 92) (e ∙ c.if-not-fits.false))))

pub overflow_add-n : goal.overflow_add-n
overflow_add-n c =
    let a = c.args in
    let text = a.string_value.now in
    let other = a.default_string_value.now in
    let name = a.name.now in
    let m = a.out.now in
    let e = three-tests (text_fits a.v text) (text_fits a.default_value other) (leb (length name) 92) c.fits.result c.fits-2.result c.fits.ensures c.fits-2.ensures in
    omega (arith, c.values_size-at.ensures, size_fits a.v text (and_left (text_fits a.v text) (text_fits a.default_value other && leb (length name) 92) (e ∙ c.if-not-fits.false)), size_fits a.default_value other (and_left (text_fits a.default_value other) (leb (length name) 92) (and_right (text_fits a.v text) (text_fits a.default_value other && leb (length name) 92) (e ∙ c.if-not-fits.false))), leb-true (length name) 92 (and_right (text_fits a.default_value other) (leb (length name) 92) (and_right (text_fits a.v text) (text_fits a.default_value other && leb (length name) 92) (e ∙ c.if-not-fits.false))), size_none a.max_value, size_none a.min_value)

pub returns-then-out-n : goal.returns-then-out-n
returns-then-out-n c =
    let a = c.args in
    let text = a.string_value.now in
    let other = a.default_string_value.now in
    let name = a.name.now in
    let m = a.out.now in
    let e = three-tests (text_fits a.v text) (text_fits a.default_value other) (leb (length name) 92) c.fits.result c.fits-2.result c.fits.ensures c.fits-2.ensures in
    let o = octets-all text (λ i. omega (arith, c.shared_slice_known-1.given i)) in
    let p = octets-all other (λ i. omega (arith, c.shared_slice_known-2-1.given i)) in
    let r = octets-all name (λ i. omega (arith, c.shared_slice_known-3-1.given i)) in
    refuse-8 response (told a.v text a.default_value other a.max_value a.min_value name) m (response-tags a.v text a.default_value other a.max_value a.min_value name ∙ sym c.known-all_known.ensures ∙ c.if-not-all_known.false)
    (response-fits a.v text a.default_value other a.max_value a.min_value name (held a.v c.well_formed.0) o (held a.default_value c.well_formed.1.1.0) p (held a.max_value c.well_formed.1.1.1.1.0) (held a.min_value c.well_formed.1.1.1.1.1.0) r ∙ e ∙ c.if-not-fits.false)
    ((size_of a.v (length text) + size_of a.default_value (length other) + size_of a.max_value 0 + size_of a.min_value 0) + length name) (response-size a.v text a.default_value other a.max_value a.min_value name) (omega (arith, c.values_size-at.ensures, c.if-out-n.true))

pub put_values-requires : goal.put_values-requires
put_values-requires c =
    let a = c.args in
    let text = a.string_value.now in
    let other = a.default_string_value.now in
    let name = a.name.now in
    let m = a.out.now in
    let e = three-tests (text_fits a.v text) (text_fits a.default_value other) (leb (length name) 92) c.fits.result c.fits-2.result c.fits.ensures c.fits-2.ensures in
    ((size_fits a.v text (and_left (text_fits a.v text) (text_fits a.default_value other && leb (length name) 92) (e ∙ c.if-not-fits.false)), size_fits a.default_value other (and_left (text_fits a.default_value other) (leb (length name) 92) (and_right (text_fits a.v text) (text_fits a.default_value other && leb (length name) 92) (e ∙ c.if-not-fits.false)))), omega (arith, c.values_size-at.ensures, c.if-out-n.false))

pub returns : goal.returns
returns c =
    let a = c.args in
    let text = a.string_value.now in
    let other = a.default_string_value.now in
    let name = a.name.now in
    let m = a.out.now in
    let e = three-tests (text_fits a.v text) (text_fits a.default_value other) (leb (length name) 92) c.fits.result c.fits-2.result c.fits.ensures c.fits-2.ensures in
    let o = octets-all text (λ i. omega (arith, c.shared_slice_known-1.given i)) in
    let p = octets-all other (λ i. omega (arith, c.shared_slice_known-2-1.given i)) in
    let r = octets-all name (λ i. omega (arith, c.shared_slice_known-3-1.given i)) in
    let l : ((size_of a.v (length text) + size_of a.default_value (length other) + size_of a.max_value 0 + size_of a.min_value 0) + length name) ≤ length m = omega (arith, c.values_size-at.ensures, c.if-out-n.false) in
    ap (λ (k : ℕ). (numbered (got (k + length name)), c.write_bytes.new.s)) c.values_size-at.ensures
    ∙ write-all response (told a.v text a.default_value other a.max_value a.min_value name) m (response-tags a.v text a.default_value other a.max_value a.min_value name ∙ sym c.known-all_known.ensures ∙ c.if-not-all_known.false)
    (response-fits a.v text a.default_value other a.max_value a.min_value name (held a.v c.well_formed.0) o (held a.default_value c.well_formed.1.1.0) p (held a.max_value c.well_formed.1.1.1.1.0) (held a.min_value c.well_formed.1.1.1.1.1.0) r ∙ e ∙ c.if-not-fits.false)
    ((size_of a.v (length text) + size_of a.default_value (length other) + size_of a.max_value 0 + size_of a.min_value 0) + length name) (response-size a.v text a.default_value other a.max_value a.min_value name) (octets-all m (λ i. omega (arith, c.slice_known-1.given i))) l c.write_bytes.new.s
    (response-stored a.v text a.default_value other a.max_value a.min_value name m c.put_values.new.out c.write_bytes.new.s l c.put_values.ensures
    (c.write_bytes.ensures ∙ ap (λ (k : ℕ). store c.put_values.new.out (k * 8) (unpack name)) c.values_size-at.ensures))
