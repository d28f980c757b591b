-- `field::copy` meets its contract. The invariant: the first i bytes of dst are those of src.
use mathlib.Core.Path.{◌≡◌, sym, ◌∙◌}
use mathlib.Core.List.{List}
use Prim.Native.Nat.{ℕ, suc, ◌<◌}
use native.Mathlib.Numerals.{add-one}
use native.Mathlib.Omega.{arith}
use lib.ListN.{length, take, get_or, set}
use lib.Seq.{take-suc, take-suc-set, take_all}
use Rattle.bits.proofs.field.copy.Goals as goal

-- a turn's store takes the copy of i bytes to the copy of one more
turn : (d s : List ℕ) (i : ℕ) → i < length s → i < length d → take i d ≡ take i s → take (suc i) (set d i (get_or s i 0)) ≡ take (suc i) s
turn d s i hs hd e = rw (take-suc-set d i, take-suc s i 0, e)

pub loop-i-preserved : goal.loop-i-preserved
loop-i-preserved c =
    rw add-one (turn c.loop-i.dst c.args.src.now c.loop-i.i (omega arith) (omega arith) c.loop-i.invariant)

pub returns : goal.returns
returns c =
    sym (take_all c.loop-i.i c.loop-i.dst (omega arith)) ∙ c.loop-i.invariant ∙ take_all c.loop-i.i c.args.src.now (omega arith)
