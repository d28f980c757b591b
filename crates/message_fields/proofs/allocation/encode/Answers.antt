-- `allocation::encode` meets its contract: the message call on the row's numbers.
use mathlib.Core.Path.{refl, ap, ◌∙◌}
use native.Mathlib.Omega.{arith}
use lib.IntN.{ℤ}
use Rattle.shape.specs.Shape.{written}
use Rattle.protocol_dynamic_node_id.specs.Allocation.{allocation}
use Rattle.row.proofs.Rows.{counted, both, write-short, write_as}
use Rattle.row.proofs.Lengths.{word_fits}
use Rattle.message_fields.proofs.allocation.encode.Goals as goal

pub returns-then-fields-lt4 : goal.returns-then-fields-lt4
returns-then-fields-lt4 c = let a = c.args in write-short 4 a.fields.now _ a.out.now (omega arith)

pub of_written-requires : goal.of_written-requires
of_written-requires c =
    let a = c.args in
    word_fits allocation refl _ a.out.now _ _ c.encode.ensures

pub returns : goal.returns
returns c =
    let a = c.args in
    let m = a.out.now in
    write_as 4 a.fields.now _ m (omega arith) _ _ (c.encode.ensures ∙ ap (λ (p : ℤ × ℤ). written allocation (p.0, (p.1, a.unique_id.now)) m) (both (counted _ _ c.count.ensures) (counted _ _ c.count-2.ensures))) _ c.of_written.ensures
