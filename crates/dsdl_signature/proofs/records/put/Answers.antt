-- `records::put` meets its contract.
use native.Mathlib.Omega.{arith}
use Rattle.bits.specs.Little.{le_bytes}
use Rattle.bits.proofs.Splice.{splice-next}
use Rattle.bits.proofs.Little.{length-le_bytes}
use Rattle.dsdl_signature.proofs.records.put.Goals as goal

pub returns : goal.returns
returns c =
    let a = c.args in
    splice-next a.records.now c.put_at.new.s c.put_at-2.new.s a.at 4 (le_bytes 4 a.len) (le_bytes 8 a.signature) (omega arith) (length-le_bytes 4 a.len) c.put_at.ensures c.put_at-2.ensures
