use mathlib.Core.Path.{◌≡◌}
use mathlib.Core.List.{List, ◌∷◌, ◌++◌, map}
use Prim.Native.Nat.{ℕ, ◌-◌}
use lib.IntN.{ℤ}
use lib.ListN.{take, get_or, replicate}
use Rattle.row.specs.Row.{word}
use Rattle.message_fields.proofs.raw_command.RawCommandAsRow21.words.Given as goal

-- the words of the first i, and zeros
abbrev pub front : List ℤ → ℕ → List ℕ
front cmd i = map word (take i cmd) ++ replicate (20 - i) 0

abbrev pub invariant-loop-i : goal.invariant-loop-i
invariant-loop-i l = l.w ≡ get_or l.initial.w 0 0 ∷ front l.fn.self.cmd l.i
