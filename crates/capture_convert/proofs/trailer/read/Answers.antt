-- `trailer::read` meets its contract.
use mathlib.Core.Path.{◌∙◌, sym}
use Prim.Native.Nat.{◌*◌}
use native.Mathlib.Omega.{arith}
use Rattle.bits.proofs.Octets.{octets-all}
use Rattle.capture_convert.proofs.Trailers.{formed-is, count-lt}
use Rattle.capture_convert.proofs.trailer.read.Goals as goal

pub overflow_mul-size : goal.overflow_mul-size
overflow_mul-size c =
    let t = c.args.t.now in
    omega (arith, c.get_at-count.ensures, count-lt t c.requires (octets-all t (λ i. omega (arith, c.type_inv.t i))))

pub returns-then-not-is_formed : goal.returns-then-not-is_formed
returns-then-not-is_formed c =
    let t = c.args.t.now in
    sym (c.is_formed.ensures
    ∙ formed-is t c.get_at-mark.result c.get_at-distance.result (c.get_at-count.result * 21) c.get_at-mark.ensures c.get_at-distance.ensures
    (omega (arith, c.get_at-count.ensures))) ∙ c.if-not-is_formed.true

pub returns : goal.returns
returns c =
    let t = c.args.t.now in
    record {
      ok = sym (c.is_formed.ensures
          ∙ formed-is t c.get_at-mark.result c.get_at-distance.result (c.get_at-count.result * 21) c.get_at-mark.ensures c.get_at-distance.ensures
          (omega (arith, c.get_at-count.ensures))) ∙ c.if-not-is_formed.false;
      count = c.get_at-count.ensures;
      sum = c.get_at.ensures;
      few = omega (arith, c.get_at-count.ensures, count-lt t c.requires (octets-all t (λ i. omega (arith, c.type_inv.t i))));
    }
