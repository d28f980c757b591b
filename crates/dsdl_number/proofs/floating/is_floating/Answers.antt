-- `floating::is_floating` meets its contract.
use Rattle.dsdl_number.proofs.Floats.{no_number, exponent-only, fraction-only, both, room}
use Rattle.dsdl_number.proofs.floating.is_floating.Goals as goal

pub returns-then-i-eq0 : goal.returns-then-i-eq0
returns-then-i-eq0 c = no_number c.args.s.now c.run-i.result c.run-i.ensures.0 c.if-i-eq0.true

pub returns-then-f-eq0 : goal.returns-then-f-eq0
returns-then-f-eq0 c =
    let s = c.args.s.now in
    exponent-only s c.run-i.result c.fraction_length-f.result c.run-i.ensures.0 c.if-i-eq0.false c.fraction_length-f.ensures.0 _ c.if-f-eq0.true c.is_exponent.ensures

pub returns-then-p-s : goal.returns-then-p-s
returns-then-p-s c =
    let s = c.args.s.now in
    fraction-only s c.run-i.result c.fraction_length-f.result c.run-i.ensures.0 c.if-i-eq0.false c.fraction_length-f.ensures.0 c.if-f-eq0.false c.if-p-s.true

pub returns : goal.returns
returns c =
    let s = c.args.s.now in
    both s c.run-i.result c.fraction_length-f.result c.run-i.ensures.0 c.if-i-eq0.false c.fraction_length-f.ensures.0 c.if-f-eq0.false _ (room s c.run-i.result c.fraction_length-f.result c.if-f-eq0.false c.fraction_length-f.ensures.1) c.if-p-s.false c.is_exponent-2.ensures
