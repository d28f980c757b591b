-- `raw_command::decode` meets its contract: a refusal, or the items, converted.
use mathlib.Core.Path.{ap, ◌∙◌}
use mathlib.Core.List.{List}
use Prim.Native.Nat.{ℕ}
use native.Mathlib.Omega.{arith}
use Rattle.bits.specs.Order.{unpack}
use Rattle.bits.proofs.Bytes.{length-unpack}
use Rattle.shape.specs.Shape.{all_below}
use Rattle.shape.proofs.Reading.{handed-on}
use Rattle.equipment_esc.proofs.RawCommandFacts.{not-read, told, was_read, places-below}
use Rattle.equipment_esc.proofs.raw_command.decode.Goals as goal

pub returns-in_err-count : goal.returns-in_err-count
returns-in_err-count c =
    handed-on c.from_residual.result c.in_err-count.field-0.0 c.from_residual.ensures.1 ∙ not-read c.args.payload.now _ c.in_err-count.ensures

pub read_patterns-requires : goal.read_patterns-requires
read_patterns-requires c =
    let t = told c.args.payload.now c.in_ok-count.count c.in_ok-count.ensures in
    (t.few, omega (arith, t.inside, length-unpack c.args.payload.now))

pub numbers-requires : goal.numbers-requires
numbers-requires c =
    ap (λ (xs : List ℕ). all_below 16384 xs) c.read_patterns.ensures
    ∙ places-below (unpack c.args.payload.now) c.in_ok-count.count (told c.args.payload.now c.in_ok-count.count c.in_ok-count.ensures).inside

pub returns : goal.returns
returns c =
    was_read c.args.payload.now c.in_ok-count.count c.in_ok-count.ensures c.read_patterns.result c.numbers.result c.read_patterns.ensures
    c.numbers.ensures
