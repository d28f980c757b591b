-- `laws::line` meets its contract.
use Rattle.log_line.proofs.Lines.{read, line-back, line-short}
use Rattle.log_line.proofs.laws.line.Goals as goal

pub returns : goal.returns
returns c =
    record {
      read_back = line-back;
      written_back = λ l f e. (read l f e).line;
      carried = λ l f e. (read l f e).carried;
      short = line-short;
    }
