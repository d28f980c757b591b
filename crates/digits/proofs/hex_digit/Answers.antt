-- `hex_digit` meets its contract.
use Rattle.digits.proofs.Digits.{glyph-low, glyph-high}
use mathlib.Core.Path.{sym}
use Rattle.digits.proofs.hex_digit.Goals as goal

pub returns-then-d-lt10 : goal.returns-then-d-lt10
returns-then-d-lt10 c = sym (glyph-low c.args.d c.if-d-lt10.true)

pub returns : goal.returns
returns c = sym (glyph-high c.args.d c.if-d-lt10.false)
