-- `entry::key_of` meets its contract.
use native.Mathlib.Omega.{arith}
use Rattle.id_map.specs.Layout.{key_of}
use Rattle.id_map.proofs.Keys.{topic-key}
use Rattle.id_map.proofs.entry.key_of.Goals as goal

pub returns : goal.returns
unfolding key_of
returns c =
    let a = c.args in
    (topic-key (record { transfer_type = a.transfer_type; type = a.type_id; destination = a.destination }) (omega arith) (omega arith), omega arith)
