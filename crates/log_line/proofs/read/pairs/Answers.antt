-- `read::pairs` meets its contract.
use Rattle.log_line.proofs.Steps.{is, not, begun, on, off, done, drop-zeros}
use lib.ListN.{length-set}
use lib.Seq.{drop-set-lt}
use native.Mathlib.Omega.{arith}
use native.Mathlib.Numerals.{add-one}
use mathlib.Core.Path.{refl, ◌∙◌}
use Rattle.log_line.proofs.read.pairs.Goals as goal

pub loop-j-init : goal.loop-j-init
loop-j-init c =
    let a = c.args in
    (refl, (begun a.line.now a.at a.k, drop-zeros a.k 8))

pub returns-in_err-b : goal.returns-in_err-b
returns-in_err-b c =
    let a = c.args in
    let n = off a.line.now c.loop-j.bytes a.at a.k c.loop-j.j c.loop-j-test.true c.requires.1 c.loop-j.invariant.1.0
    (not _ c.in_err-b.ensures) in
    rw c.from_residual.ensures (n, tt)

pub loop-j-preserved : goal.loop-j-preserved
loop-j-preserved c =
    let a = c.args in
    let v = c.loop-j.invariant in (
      simp length-set v.0,
      (
        rw (add-one c.loop-j.j) (on a.line.now c.loop-j.bytes a.at a.k c.loop-j.j c.loop-j-test.true c.requires.1 v.1.0 _
            (is _ _ c.in_ok-b.ensures) (omega (arith, v.0, c.requires.0))),
        drop-set-lt a.k c.loop-j.bytes c.loop-j.j _ c.loop-j-test.true ∙ v.1.1,
      ),
    )

pub returns : goal.returns
returns c =
    let a = c.args in (
      done a.line.now c.loop-j.bytes a.at a.k c.loop-j.j (omega arith) c.loop-j.invariant.1.0,
      (c.loop-j.invariant.0, c.loop-j.invariant.1.1),
    )
