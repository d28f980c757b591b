-- `number::read` meets its contract: less than 64 bits are a number of 64 bits.
use mathlib.Core.Path.{ap, ◌∙◌}
use native.Mathlib.Omega.{arith}
use lib.IntN.{pos}
use mir.Syntax.{w64}
use mir.ValLaws.{to_z_pos}
use Rattle.shape.proofs.CastFacts.{number-below}
use Rattle.shape.proofs.number.read.Goals as goal

pub overflow_cast-result : goal.overflow_cast-result
overflow_cast-result c =
    let a = c.args in
    record { sfits = omega (arith, c.read.ensures, number-below a.s.now a.at a.w (omega arith) (omega arith) (pos c.read.result) (ap pos c.read.ensures)) }

pub returns : goal.returns
returns c =
    let a = c.args in
    let l = number-below a.s.now a.at a.w (omega arith) (omega arith) (pos c.read.result) (ap pos c.read.ensures) in
    to_z_pos w64 c.read.result (omega (arith, c.read.ensures)) ∙ ap pos c.read.ensures
