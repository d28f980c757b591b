-- `check::bad_anonymous` meets its contract, case by case.
use mathlib.Core.Path.{sym}
use mathlib.Core.Bool.{not, or-false}
use borrow.Author.Tests.{lt-ltb, le-ltb}
use lib.Dec.{eqb}
use Rattle.sender.proofs.check.bad_anonymous.Goals as goal

pub returns-then-discriminator-gt16383 : goal.returns-then-discriminator-gt16383
returns-then-discriminator-gt16383 c = rw (lt-ltb 16383 c.args.discriminator c.if-discriminator-gt16383.true)

pub returns-then-type_id-gt3 : goal.returns-then-type_id-gt3
returns-then-type_id-gt3 c = let a = c.args in rw (le-ltb 16383 a.discriminator c.if-discriminator-gt16383.false, lt-ltb 3 a.type_id c.if-type_id-gt3.true)

pub returns-then-n-gt7 : goal.returns-then-n-gt7
returns-then-n-gt7 c =
    let a = c.args in
    rw (le-ltb 16383 a.discriminator c.if-discriminator-gt16383.false, le-ltb 3 a.type_id c.if-type_id-gt3.false, lt-ltb 7 a.n c.if-n-gt7.true)

pub returns : goal.returns
returns c =
    let a = c.args in
    rw (le-ltb 16383 a.discriminator c.if-discriminator-gt16383.false, le-ltb 3 a.type_id c.if-type_id-gt3.false, le-ltb 7 a.n c.if-n-gt7.false) (sym (or-false (not (eqb a.transfer_type 0))))
