-- `of_row` of RawCommand meets its contract. The invariant: the first i numbers are read.
use mathlib.Core.Path.{◌≡◌, sym, ap, ◌∙◌}
use mathlib.Core.List.{List}
use Prim.Native.Nat.{ℕ, ◌+◌, ◌≤◌, ◌<◌}
use native.Mathlib.Omega.{arith}
use lib.IntN.{ℤ, pos}
use lib.ListN.{length, drop, get_or}
use lib.Seq.{get_or-take, get_or-drop}
use Rattle.bits.specs.Part.{span}
use Rattle.bits.proofs.Splice.{length-span}
use Rattle.shape.specs.Signed.{signed_of}
use Rattle.equipment_esc.proofs.RawCommandFacts.{mapped, all-mapped}
use Rattle.row.proofs.Rows.{held}
use Rattle.message_fields.proofs.raw_command.RawCommandOfRow21.of_row.Goals as goal

twenty : (ws : List ℕ) → 21 ≤ length ws → length (span ws 1 20) ≡ 20
twenty ws h = length-span ws 1 20 h

-- the number after the count and i more
word_at : (ws : List ℕ) (i : ℕ) → i < 20 → get_or ws (i + 1) 0 ≡ get_or (span ws 1 20) i 0
word_at ws i h = ap (λ (k : ℕ). get_or ws k 0) (omega arith) ∙ sym (get_or-take 20 (drop 1 ws) i 0 h ∙ get_or-drop 1 ws i 0)

pub loop-i-preserved : goal.loop-i-preserved
loop-i-preserved c =
    let ws = c.args.fields.now in
    let i = c.loop-i.i in
    mapped (signed_of 64) (span ws 1 20) 0 (pos 0) c.loop-i.cmd i _ (omega (arith, twenty ws (omega arith))) (omega arith) c.loop-i.invariant (held _ _ c.number.ensures ∙ ap (λ (n : ℕ). signed_of 64 n) (word_at ws i (omega arith)))

pub returns : goal.returns
returns c =
    let ws = c.args.fields.now in
    ap (λ (z : List ℤ). record { count = get_or ws 0 0; cmd = z }) (all-mapped (signed_of 64) (span ws 1 20) (pos 0) c.loop-i.cmd c.loop-i.i (twenty ws (omega arith)) (omega arith) c.loop-i.invariant)
