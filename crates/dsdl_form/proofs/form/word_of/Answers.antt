-- `form::word_of` meets its contract.
use Rattle.dsdl_form.proofs.Words.{empty, outside, cut}
use Rattle.dsdl_form.proofs.form.word_of.Goals as goal

pub returns-then-end-at : goal.returns-then-end-at
returns-then-end-at c = empty c.args.line.now c.args.w c.if-end-at.true

pub returns-then-n-at : goal.returns-then-n-at
returns-then-n-at c = outside c.args.line.now c.args.w c.if-n-at.true

pub returns-then-n-end : goal.returns-then-n-end
returns-then-n-end c = cut c.args.line.now c.args.w c.if-n-end.true
