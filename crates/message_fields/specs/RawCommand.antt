-- RULES 13.5, 10.10: RawCommand as a row, its count and 20 numbers.
use Rattle.std.specs.Prelude.{List, ◌∷◌, map, ℕ, get_or}
use Rattle.bits.specs.Part.{span}
use Rattle.shape.specs.Answer.{Answer, map_answer}
use Rattle.shape.specs.Signed.{signed_of}
use Rattle.equipment_esc.specs.RawCommand.{command_in, command_encoded}
use Rattle.equipment_esc.specs.declared.raw_command.RawCommand.{RawCommand}
use Rattle.row.specs.Row.{word, given}

abbrev pub command_words : RawCommand → List ℕ
command_words x = x.count ∷ map word x.cmd

abbrev pub commands_in : List ℕ → Answer (List ℕ)
commands_in p = map_answer command_words (command_in p)

abbrev pub command_from : List ℕ → RawCommand
command_from ws = record { count = get_or ws 0 0; cmd = map (signed_of 64) (span ws 1 20) }

abbrev pub commands_made : List ℕ → ℕ → Answer (List ℕ)
commands_made ws room = given 21 ws (command_encoded (command_from ws) room)
