-- `value::written_size` meets its contract.
use Rattle.protocol_param.proofs.value.written_size.Goals as goal

pub returns-in-Text : goal.returns-in-Text
returns-in-Text c = cc
