-- `receive_many` meets its contract: a state at fault answers 20, on any other the records are received.
use mathlib.Core.Path.{sym, ap, ◌∙◌}
use mathlib.Core.Bool.{Bool}
use Prim.Native.Nat.{ℕ, min, ◌*◌, ◌/◌, ◌≤◌}
use native.Mathlib.Nat.{min-le_left, min-le_right}
use native.Mathlib.Omega.{arith}
use lib.ListN.{length}
use Rattle.batch.specs.Layout.{arrival_size, result_size, records_max, arrival_at}
use Rattle.batch.specs.Many.{at_most, batch, told, received_many_if, received_many}
use Rattle.bits.specs.Tabulate.{tabulate}
use Rattle.batch.proofs.receive_many.Goals as goal

-- as many records as there are, and as there is room for
few : (a b : ℕ) → (at_most a b * arrival_size ≤ a) × (at_most a b * result_size ≤ b)
few a b =
    let x = min-le_left (min (a / arrival_size) (b / result_size)) records_max in
    let y = min-le_left (a / arrival_size) (b / result_size) in
    let z = min-le_right (a / arrival_size) (b / result_size) in
    (omega (arith, x, y), omega (arith, x, z))

pub receive_all-requires : goal.receive_all-requires
receive_all-requires c =
    let a = c.args in
    let f = few (length a.records.now) (length a.results.now) in
    let e = c.least-n.ensures ∙ ap (λ (k : ℕ). min k records_max) c.least.ensures in
    (sym c.is_sound.ensures ∙ c.if-is_sound.true, (omega (arith, f.0, e), omega (arith, f.1, e)))

pub returns-then-is_sound : goal.returns-then-is_sound
unfolding received_many received_many_if
returns-then-is_sound c =
    let a = c.args in
    let m = a.state.now in
    c.receive_all.ensures
    ∙ ap (λ (k : ℕ). told (batch m (tabulate (arrival_at a.records.now) 0 k) a.out.now) a.results.now)
    (c.least-n.ensures ∙ ap (λ (k : ℕ). min k records_max) c.least.ensures)
    ∙ ap (λ (b : Bool). received_many_if b m a.records.now a.results.now a.out.now) (sym (sym c.is_sound.ensures ∙ c.if-is_sound.true))

pub returns : goal.returns
unfolding received_many received_many_if
returns c =
    let a = c.args in
    ap (λ (b : Bool). received_many_if b a.state.now a.records.now a.results.now a.out.now) (sym (sym c.is_sound.ensures ∙ c.if-is_sound.false))
