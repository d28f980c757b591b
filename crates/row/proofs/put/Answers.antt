-- `put` meets its contract.
use mathlib.Core.Path.{ap}
use mathlib.Core.List.{List, ◌++◌}
use Prim.Native.Nat.{ℕ}
use native.Mathlib.Omega.{arith}
use lib.ListN.{length, drop}
use Rattle.row.proofs.Rows.{row-short, row-placed}
use Rattle.row.proofs.put.Goals as goal

pub returns-then-fields-words : goal.returns-then-fields-words
returns-then-fields-words c = let a = c.args in row-short a.words.now a.fields.now (omega arith)

pub returns : goal.returns
returns c =
    let a = c.args in
    row-placed a.words.now a.fields.now _ (omega arith) (ap (λ (ws : List ℕ). ws ++ drop (length a.words.now) a.fields.now) c.copy_from_slice.ensures.after)
