-- RULES 9.10: the return trips of RawCommand, instances of the laws over every description and of those of signed numbers; `laws.rt` has a
-- function for them.
use Rattle.std.specs.Prelude.{◌≡◌, Bool, true, ◌&&◌, List, [], ◌∷◌, map, ℕ, ◌≤◌, ℤ, length}
use Rattle.bits.specs.Order.{Octets}
use Rattle.shape.specs.Answer.{got}
use Rattle.shape.specs.Cast.{signed, saturated, holds, clip}
use Rattle.equipment_esc.specs.RawCommand.{commands, command_in, numbers_of, command_encoded}
use Rattle.equipment_esc.specs.declared.raw_command.RawCommand.{RawCommand}

-- RULES 9.14: numbers as they are read of what was written
abbrev pub clipped_numbers : List ℤ → List ℤ
clipped_numbers zs = map (clip signed saturated 14) zs

-- 14 bits hold each
unfoldable pub all_in : List ℤ → Bool
all_in [] = true
all_in (z ∷ zs) = holds signed 14 z && all_in zs

pub record Laws : Type 0 where
  -- what was written is read, numbers as they were clipped, the places past the count zero
  pub there : (x : RawCommand) → length x.cmd ≡ 20 → (room : ℕ) (p : List ℕ) → command_encoded x room ≡ got p → command_in p ≡ got (commands (clipped_numbers (numbers_of x)))
  -- numbers that 14 bits hold are not changed
  pub kept : (zs : List ℤ) → all_in zs ≡ true → clipped_numbers zs ≡ zs
  -- what was read is written as it came
  pub back : (p : List ℕ) → Octets p → (x : RawCommand) (room : ℕ) → command_in p ≡ got x → length p ≤ room → command_encoded x room ≡ got p
