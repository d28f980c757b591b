-- The laws of a field.
use Rattle.bits.proofs.Bytes.{length-store, store-store}
use Rattle.bits.proofs.Stores.{before-store, behind-store, written_read}
use Rattle.bits.proofs.laws.field.Goals as goal

pub returns : goal.returns
returns c = record { read_back = written_read; before = before-store; behind = behind-store; as_long = length-store; joined = store-store }
