-- `sound::is_sound` meets its contract, fault by fault.
use mathlib.Core.Path.{ap, ◌∙◌}
use Prim.Native.Nat.{ℕ}
use native.Mathlib.Omega.{arith}
use Rattle.bits.specs.Tabulate.{tabulate}
use Rattle.allocator_table.specs.Layout.{entry_at, table_of}
use Rattle.allocator_table.specs.Table.{sound}
use Rattle.allocator_table.proofs.Soundness.{fault-short, fault-gathered, fault-entries, by-table}
use Rattle.allocator_table.proofs.sound.is_sound.Goals as goal

pub returns-then-state-lt-SIZE : goal.returns-then-state-lt-SIZE
returns-then-state-lt-SIZE c = fault-short c.args.state.now c.if-state-lt-SIZE.true

pub returns-then-gathered_count-ge-UNIQUE_ID : goal.returns-then-gathered_count-ge-UNIQUE_ID
returns-then-gathered_count-ge-UNIQUE_ID c =
    fault-gathered c.args.state.now (omega arith) (omega (arith, c.gathered_count.ensures))

pub returns-then-n-gt-NODES : goal.returns-then-n-gt-NODES
returns-then-n-gt-NODES c =
    fault-entries c.args.state.now (omega arith) (omega (arith, c.gathered_count.ensures)) (omega (arith, c.count-n.ensures))

pub returns : goal.returns
unfolding table_of
returns c =
    let m = c.args.state.now in
    c.entries_sound.ensures ∙ ap (λ (n : ℕ). sound (tabulate (entry_at m) 0 n)) c.count-n.ensures
    ∙ by-table m (omega arith) (omega (arith, c.gathered_count.ensures)) (omega (arith, c.count-n.ensures))
