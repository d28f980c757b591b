-- `raw_command::encode` meets its contract: 17, 8 or the commands.
use native.Mathlib.Omega.{arith}
use Rattle.bits.proofs.Octets.{octets-all}
use Rattle.equipment_esc.proofs.RawCommandFacts.{too_many, too_short, stored}
use borrow.Author.Rules.{rules}
use Rattle.equipment_esc.proofs.raw_command.encode.Goals as goal

pub returns-then-n-gt20 : goal.returns-then-n-gt20
returns-then-n-gt20 c = let a = c.args in too_many a.x a.out.now c.if-n-gt20.true

pub returns-then-out-len : goal.returns-then-out-len
returns-then-out-len c =
    too_short c.args.x c.args.out.now (search rules) c.if-n-gt20.false c.if-out-len.true

pub patterns-requires : goal.patterns-requires
patterns-requires c = c.if-n-gt20.false

pub write_patterns-requires : goal.write_patterns-requires
write_patterns-requires c = (c.if-n-gt20.false, omega (arith, c.if-out-len.false))

pub returns : goal.returns
returns c =
    stored c.args.x c.args.out.now (search rules) c.if-n-gt20.false (octets-all c.args.out.now (λ i. omega (arith, c.slice_known-1.given i))) c.if-out-len.false
    c.patterns.result c.write_patterns.new.out c.patterns.ensures c.write_patterns.ensures
