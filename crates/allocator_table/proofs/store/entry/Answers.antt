-- `store::entry` meets its contract.
use mathlib.Core.Path.{◌≡◌, ap, ◌∙◌}
use mathlib.Core.List.{List}
use Prim.Native.Nat.{ℕ}
use native.Mathlib.Omega.{arith}
use lib.ListN.{length}
use lib.Seq.{take_all}
use Rattle.bits.specs.Little.{le}
use Rattle.bits.specs.Part.{span}
use Rattle.allocator_table.specs.Layout.{table_of, with_entry_at, with_entry}
use Rattle.allocator_table.specs.Limits.{unique_id_max}
use Rattle.allocator_table.specs.Table.{place_for}
use Rattle.allocator_table.specs.inside.Code.{number_of}
use Rattle.allocator_table.proofs.Soundness.{long-enough}
use Rattle.allocator_table.proofs.Tables.{place_in}
use Rattle.allocator_table.proofs.store.entry.Goals as goal

-- where the unique ID belongs
placed : (m u m' : List ℕ) (p x n : ℕ) → p ≡ place_for x (table_of m) → x ≡ le (span u 0 unique_id_max) → length u ≡ unique_id_max → m' ≡ with_entry_at m p u n → m' ≡ with_entry m u n
unfolding with_entry
placed m u m' p x n e f l w =
    w ∙ ap (λ (k : ℕ). with_entry_at m k u n) (e ∙ ap (λ (k : ℕ). place_for k (table_of m)) (f ∙ ap le (take_all unique_id_max u (omega arith))))

pub count-n-requires : goal.count-n-requires
count-n-requires c = long-enough _ c.requires.state_value.0

pub entry_at-requires : goal.entry_at-requires
entry_at-requires c =
    let l = long-enough c.args.state.now c.requires.state_value.0 in
    let q = place_in c.args.state.now (number_of c.read.result) in
    record {
      size_in_bounds = (l, (omega (arith, q, c.place_for-p.ensures, c.count-n.ensures), omega (arith, c.count-n.ensures)));
      u_len = (c.requires.u_len, c.count-n.ensures);
    }

pub returns : goal.returns
returns c =
    placed c.args.state.now c.args.u.now c.entry_at.new.state c.place_for-p.result _ c.args.node c.place_for-p.ensures c.read.ensures c.requires.u_len c.entry_at.ensures
