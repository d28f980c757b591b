-- `gathered::claim` meets its contract.
use mathlib.Core.Path.{ap, ◌∙◌}
use native.Mathlib.Omega.{arith}
use lib.Count.{count_trailing_zeros}
use Rattle.sessions.proofs.Stored.{claims}
use Rattle.sessions.proofs.gathered.claim.Goals as goal

pub exclude-requires : goal.exclude-requires
exclude-requires c = omega (arith, c.lowest-b.ensures ∙ ap (count_trailing_zeros 64) c.free-all.ensures, c.requires.1.1)

pub returns : goal.returns
returns c =
    let a = c.args in
    claims a.state.now _ _ a.i a.n _ _ _ c.put_at.ensures c.put_u64.ensures c.exclude.ensures c.lowest-b.ensures c.free-all.ensures
