-- RawCommand: what its writer answers fits a result word.
use mathlib.Core.Path.{◌≡◌, refl}
use mathlib.Core.List.{List}
use Prim.Native.Nat.{ℕ, ◌^◌, ◌<◌}
use lib.ListN.{length}
use Rattle.shape.specs.Answer.{Numbered, wrote}
use Rattle.equipment_esc.specs.RawCommand.{raw_command, command_values, command_encoded}
use Rattle.equipment_esc.specs.declared.raw_command.RawCommand.{RawCommand}
use Rattle.row.specs.Row.{word_of}
use Rattle.row.proofs.Lengths.{refused-fits}

pub command-fits : (x : RawCommand) (m : List ℕ) (w : Numbered ℕ) (m' : List ℕ) → (w, m') ≡ wrote (command_encoded x (length m)) m → word_of w < 2 ^ 64
unfolding command_encoded
command-fits x m w m' e = refused-fits raw_command refl (command_values x) m _ w m' e
