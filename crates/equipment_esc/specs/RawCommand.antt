-- RULES 10.10: RawCommand, a list of at most 20 signed numbers of 14 bits that ends the message.
use Rattle.std.specs.Prelude.{List, ◌++◌, map, ℕ, ◌-◌, ltb, ℤ, pos, length, take, replicate}
use Rattle.shape.specs.Answer.{Answer, refuse_if, map_answer}
use Rattle.shape.specs.Cast.{signed, saturated, cast_bits}
use Rattle.shape.specs.Shape.{Shape, tail, Values, anything, decoded, encoded}
use Rattle.shape.specs.Signed.{signed_of}
use Rattle.equipment_esc.specs.declared.raw_command.RawCommand.{RawCommand}

abbrev pub raw_command : Shape
raw_command = tail 14 20 anything

-- 20 places: numbers, then zeros
abbrev pub places : List ℤ → List ℤ
places zs = zs ++ replicate (20 - length zs) (pos 0)

abbrev pub commands : List ℤ → RawCommand
commands zs = record { count = length zs; cmd = places zs }

-- ── reading ──

-- RULES 9.13: the view
abbrev pub command_of : Values raw_command → RawCommand
command_of xs = commands (map (signed_of 14) xs)

abbrev pub command_in : List ℕ → Answer RawCommand
command_in p = map_answer command_of (decoded raw_command p)

-- ── writing ──

abbrev pub numbers_of : RawCommand → List ℤ
numbers_of x = take x.count x.cmd

-- RULES 9.14: the 14 bits of a number, saturated
abbrev pub pattern_of : ℤ → ℕ
pattern_of z = cast_bits signed saturated 14 z

abbrev pub command_values : RawCommand → Values raw_command
command_values x = map pattern_of (numbers_of x)

-- RULES 9.7: 17 for the count, then 8
unfoldable pub command_encoded : RawCommand → ℕ → Answer (List ℕ)
command_encoded x room = refuse_if (ltb 20 x.count) 17 (encoded raw_command (command_values x) room)
