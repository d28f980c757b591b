-- `letter` meets its contract.
use Rattle.log_answer.specs.Answer.{letter_of}
use native.Mathlib.Omega.{arith}
use borrow.Author.Tests.{ne_eqb}
use mathlib.Core.Path.{sym, ap}
use Rattle.log_answer.proofs.letter.Goals as goal

pub returns-in-0 : goal.returns-in-0
returns-in-0 c = ap letter_of (sym c.in-0.is)

pub returns-in-1 : goal.returns-in-1
returns-in-1 c = ap letter_of (sym c.in-1.is)

pub returns-in_default : goal.returns-in_default
returns-in_default c =
    let k = c.args.transfer_type in
    rw (ne_eqb k 0 (omega arith), ne_eqb k 1 (omega arith))
