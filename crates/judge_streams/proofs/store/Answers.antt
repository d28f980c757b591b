-- `store` meets its contract.
use Rattle.judge_streams.proofs.Words.{stored}
use Rattle.judge_streams.proofs.store.Goals as goal

pub returns : goal.returns
returns c =
    let a = c.args in
    stored a.table.now a.j a.n a.k c.progress.result c.requires.0 c.requires.1.0 c.progress.ensures
