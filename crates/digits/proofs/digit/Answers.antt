-- `digit` meets its contract.
use Rattle.digits.specs.Digits.{digit_of}
use borrow.Author.Tests.{lt-ltb, le-ltb}
use Rattle.digits.proofs.digit.Goals as goal

pub returns-then-c-lt48 : goal.returns-then-c-lt48
unfolding digit_of
returns-then-c-lt48 c = rw (lt-ltb c.args.c 48 c.if-c-lt48.true)

pub returns-then-c-lt58 : goal.returns-then-c-lt58
unfolding digit_of
returns-then-c-lt58 c =
    let x = c.args.c in
    rw (le-ltb x 48 c.if-c-lt48.false, lt-ltb x 58 c.if-c-lt58.true, c.wide.ensures)

pub returns-then-c-lt65 : goal.returns-then-c-lt65
unfolding digit_of
returns-then-c-lt65 c =
    let x = c.args.c in
    rw (le-ltb x 48 c.if-c-lt48.false, le-ltb x 58 c.if-c-lt58.false, lt-ltb x 65 c.if-c-lt65.true)

pub returns-then-c-lt71 : goal.returns-then-c-lt71
unfolding digit_of
returns-then-c-lt71 c =
    let x = c.args.c in
    rw (le-ltb x 48 c.if-c-lt48.false, le-ltb x 58 c.if-c-lt58.false, le-ltb x 65 c.if-c-lt65.false, lt-ltb x 71 c.if-c-lt71.true, c.wide-then-c-lt71.ensures)

pub returns : goal.returns
unfolding digit_of
returns c =
    let x = c.args.c in
    rw (le-ltb x 48 c.if-c-lt48.false, le-ltb x 58 c.if-c-lt58.false, le-ltb x 65 c.if-c-lt65.false, le-ltb x 71 c.if-c-lt71.false)
