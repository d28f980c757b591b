-- `words` of RawCommand meets its contract. The invariant: the count, and the words of the first i numbers, stand in front.
use mathlib.Core.Path.{◌≡◌, refl, ap, ◌∙◌}
use mathlib.Core.List.{List, ◌∷◌}
use Prim.Native.Nat.{ℕ, ◌+◌, ◌<◌}
use native.Mathlib.Numerals.{add-one}
use native.Mathlib.Omega.{arith}
use borrow.Author.Rules.{rules}
use lib.IntN.{ℤ, pos}
use lib.ListN.{length, get_or, set}
use Rattle.equipment_esc.proofs.RawCommandFacts.{mapped, all-mapped}
use Rattle.row.specs.Row.{word}
use Rattle.row.proofs.Rows.{word-of}
use Rattle.message_fields.proofs.raw_command.RawCommandAsRow21.words.Invariants.{front}
use Rattle.message_fields.proofs.raw_command.RawCommandAsRow21.words.Goals as goal

-- a turn's store, one place further
turn : (cmd : List ℤ) (n : ℕ) (w : List ℕ) (i v : ℕ) → i < length cmd → i < 20 → w ≡ n ∷ front cmd i → v ≡ word (get_or cmd i (pos 0)) → set w (i + 1) v ≡ n ∷ front cmd (i + 1)
turn cmd n w i v h k e g =
    ap (λ (l : List ℕ). set l (i + 1) v) e ∙ ap (λ (j : ℕ). set (n ∷ front cmd i) j v) (add-one i)
    ∙ ap (λ (l : List ℕ). n ∷ l) (mapped word cmd (pos 0) 0 (front cmd i) i v h k refl g)

pub loop-i-preserved : goal.loop-i-preserved
loop-i-preserved c =
    turn c.args.self.cmd c.args.self.count c.loop-i.w c.loop-i.i c.word.result (omega arith) (omega arith) c.loop-i.invariant (word-of _ (search rules) _ c.word.ensures)

pub returns : goal.returns
returns c =
    c.loop-i.invariant ∙ ap (λ (m : List ℕ). c.args.self.count ∷ m) (all-mapped word c.args.self.cmd 0 (front c.args.self.cmd c.loop-i.i) c.loop-i.i (search rules) (omega arith) refl)
