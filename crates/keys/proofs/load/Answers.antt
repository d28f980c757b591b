-- `load` meets its contract. The invariant: the first i keys are in hand.
use mathlib.Core.Path.{◌≡◌, refl}
use mathlib.Core.List.{List}
use Prim.Native.Nat.{ℕ, suc, ◌<◌}
use native.Mathlib.Nat.{zero-add}
use native.Mathlib.Numerals.{add-one}
use native.Mathlib.Omega.{arith}
use lib.ListN.{length, take, set}
use lib.Seq.{take-suc-set}
use Rattle.bits.specs.Tabulate.{tabulate}
use Rattle.bits.proofs.Tabulate.{tab-snoc}
use Rattle.keys.specs.inside.Keys.{word_at}
use Rattle.keys.proofs.load.Goals as goal

turn : (f : ℕ → ℕ) (table : List ℕ) (i k : ℕ) → i < length table → take i table ≡ tabulate f 0 i → k ≡ f i → take (suc i) (set table i k) ≡ tabulate f 0 (suc i)
turn f table i k l e q = rw (take-suc-set table i, tab-snoc f 0 i, zero-add, e, q)

pub loop-i-init : goal.loop-i-init
unfolding tabulate
loop-i-init c = refl

pub loop-i-preserved : goal.loop-i-preserved
loop-i-preserved c =
    let a = c.args in
    rw add-one (turn (word_at a.s.now a.at) c.loop-i.table c.loop-i.i c.get_u32.result (omega arith) c.loop-i.invariant c.get_u32.ensures)
