-- `check::bad_address` meets its contract, case by case.
use borrow.Author.Tests.{eq-eqb, ne_eqb, lt-ltb, le-ltb}
use Rattle.sender.proofs.check.bad_address.Goals as goal

pub returns-then-type_id-gt65535 : goal.returns-then-type_id-gt65535
returns-then-type_id-gt65535 c = let a = c.args in rw (eq-eqb a.transfer_type 0 c.if-transfer_type-eq0.true, lt-ltb 65535 a.type_id c.if-type_id-gt65535.true)

pub returns-then-transfer_type-eq0 : goal.returns-then-transfer_type-eq0
returns-then-transfer_type-eq0 c = let a = c.args in rw (eq-eqb a.transfer_type 0 c.if-transfer_type-eq0.true, le-ltb 65535 a.type_id c.if-type_id-gt65535.false)

pub returns-then-type_id-gt255 : goal.returns-then-type_id-gt255
returns-then-type_id-gt255 c = let a = c.args in rw (ne_eqb a.transfer_type 0 c.if-transfer_type-eq0.false, lt-ltb 255 a.type_id c.if-type_id-gt255.true)

pub returns-then-destination-eq0 : goal.returns-then-destination-eq0
returns-then-destination-eq0 c =
    let a = c.args in
    rw (ne_eqb a.transfer_type 0 c.if-transfer_type-eq0.false, le-ltb 255 a.type_id c.if-type_id-gt255.false, eq-eqb a.destination 0 c.if-destination-eq0.true)

pub returns : goal.returns
returns c =
    let a = c.args in
    rw (ne_eqb a.transfer_type 0 c.if-transfer_type-eq0.false, le-ltb 255 a.type_id c.if-type_id-gt255.false, ne_eqb a.destination 0 c.if-destination-eq0.false)
