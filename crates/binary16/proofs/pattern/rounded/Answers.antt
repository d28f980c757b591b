-- `pattern::rounded` meets its contract: adding and cutting off rounds to the nearest, a tie to the even one.
use Rattle.binary16.proofs.Steps.{rounded-le, rounded-by}
use Rattle.binary16.proofs.pattern.rounded.Goals as goal

pub returns : goal.returns
returns c =
    let e = rounded-by c.args.d c.requires.1 c.requires.2 c.args.m in
    (e, rw e (rounded-le c.args.d c.requires.1 c.requires.2 c.args.m c.requires.0))
