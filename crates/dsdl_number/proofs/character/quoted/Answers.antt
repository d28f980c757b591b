-- `character::quoted` meets its contract.
use Rattle.dsdl_text.proofs.Choices.{by}
use Rattle.dsdl_number.proofs.Characters.{two-few, alone, alone-open, letter, letter-open, digits, digits-open}
use Rattle.dsdl_number.proofs.character.quoted.Goals as goal

pub returns-then-s-lt2 : goal.returns-then-s-lt2
returns-then-s-lt2 c = two-few c.args.s.now c.if-s-lt2.true

pub returns-then-is_closed : goal.returns-then-is_closed
returns-then-is_closed c =
    let s = c.args.s.now in
    alone s c.if-s-ne92.true _ (by c.is_closed.ensures.0 c.if-is_closed.true) c.plain.ensures

pub returns-then-s-ne92 : goal.returns-then-s-ne92
returns-then-s-ne92 c =
    let s = c.args.s.now in
    alone-open s c.if-s-ne92.true (by c.is_closed.ensures.0 c.if-is_closed.false)

pub returns-then-is_closed-2 : goal.returns-then-is_closed-2
returns-then-is_closed-2 c =
    let s = c.args.s.now in
    letter s c.if-s-ne92.false c.if-s-ne120.true _ (by c.is_closed-then-s-ne120.ensures.0 c.if-is_closed-2.true) c.escape.ensures

pub returns-then-s-ne120 : goal.returns-then-s-ne120
returns-then-s-ne120 c =
    let s = c.args.s.now in
    letter-open s c.if-s-ne92.false c.if-s-ne120.true (by c.is_closed-then-s-ne120.ensures.0 c.if-is_closed-2.false)

pub returns-then-is_closed-3 : goal.returns-then-is_closed-3
returns-then-is_closed-3 c =
    let s = c.args.s.now in
    digits s c.if-s-ne92.false c.if-s-ne120.false _ (by c.is_closed-2.ensures.0 c.if-is_closed-3.true) c.coded.ensures

pub returns : goal.returns
returns c =
    let s = c.args.s.now in
    digits-open s c.if-s-ne92.false c.if-s-ne120.false (by c.is_closed-2.ensures.0 c.if-is_closed-3.false)
