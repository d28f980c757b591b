-- `width::width` meets its contract: the word size less the leading zeros.
use borrow.Author.Rules.{rules}
use Rattle.bits.proofs.Widths.{by-zeros}
use Rattle.bits.proofs.width.width.Goals as goal

pub returns : goal.returns
returns c = by-zeros c.args.m (search rules)
