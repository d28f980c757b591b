-- `write::put_data` meets its contract.
use mathlib.Core.List.{List}
use mathlib.Core.Path.{◌≡◌, sym, ap, ◌∙◌}
use Prim.Native.Nat.{ℕ}
use native.Mathlib.Numerals.{add-one}
use native.Mathlib.Omega.{arith}
use lib.ListN.{length}
use lib.Seq.{take_all}
use Rattle.bits.specs.Part.{splice}
use Rattle.digits.proofs.Puts.{splice-nil}
use Rattle.log_line.specs.Line.{data_text}
use Rattle.log_line.proofs.Lines.{data-length}
use Rattle.log_line.proofs.Writing.{data-turn}
use Rattle.log_line.proofs.write.put_data.Goals as goal

pub loop-i-init : goal.loop-i-init
unfolding data_text
loop-i-init c = sym (splice-nil c.args.out.now c.args.at)

pub loop-i-preserved : goal.loop-i-preserved
loop-i-preserved c =
    let a = c.args in
    rw (add-one c.loop-i.i) (data-turn a.out.now c.loop-i.out c.put_byte.new.out a.s.now a.at c.loop-i.i c.loop-i-test.true c.requires
    c.loop-i.invariant c.put_byte.ensures)

pub returns : goal.returns
returns c =
    let a = c.args in
    let e : c.loop-i.i ≡ length a.s.now = omega arith in
    record {
      out = c.loop-i.invariant ∙ ap (λ (z : List ℕ). splice a.out.now a.at (data_text z)) (take_all c.loop-i.i a.s.now (omega arith));
      end = omega (arith, data-length a.s.now, e);
    }
