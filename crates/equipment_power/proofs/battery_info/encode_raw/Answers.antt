-- `battery_info::encode_raw` meets its contract: 17, 8 or a whole message.
use mathlib.Core.Path.{refl, sym, ◌∙◌}
use Prim.Native.Nat.{◌+◌}
use native.Mathlib.Omega.{arith}
use borrow.Author.Tests.{le-leb, lt-leb}
use lib.ListN.{length}
use Rattle.bits.proofs.Octets.{octets-all}
use Rattle.shape.proofs.Writing.{refuse-17, refuse-8, write-all}
use Rattle.equipment_power.proofs.BatteryInfoFacts.{size, fit as fits-if, stored}
use Rattle.equipment_power.specs.BatteryInfo.{name_only, battery_info, raw_values}
use Rattle.equipment_power.proofs.battery_info.encode_raw.Goals as goal

pub returns-then-model_name-gt31 : goal.returns-then-model_name-gt31
returns-then-model_name-gt31 c =
    let a = c.args in
    let name = a.model_name.now in
    let g = c.well_formed.0.1.1 in
    let e =
    fits-if a.m name (octets-all name (λ i. omega (arith, c.shared_slice_known-1.given i))) g.0.1 g.1.0.1 g.1.1.0.1
    g.1.1.1.0.1 g.1.1.1.1.0.1 g.1.1.1.1.1.0.1 g.1.1.1.1.1.1.0.1 in
    refuse-17 battery_info (raw_values a.m name_only name) a.out.now refl (sym e ∙ lt-leb (length name) 31 c.if-model_name-gt31.true)

pub returns-then-out-n : goal.returns-then-out-n
returns-then-out-n c =
    let a = c.args in
    let name = a.model_name.now in
    let g = c.well_formed.0.1.1 in
    let e =
    fits-if a.m name (octets-all name (λ i. omega (arith, c.shared_slice_known-1.given i))) g.0.1 g.1.0.1 g.1.1.0.1
    g.1.1.1.0.1 g.1.1.1.1.0.1 g.1.1.1.1.1.0.1 g.1.1.1.1.1.1.0.1 in
    refuse-8 battery_info (raw_values a.m name_only name) a.out.now refl (sym e ∙ le-leb (length name) 31 c.if-model_name-gt31.false) (23 + length name) (size a.m name) c.if-out-n.true

pub returns : goal.returns
returns c =
    let a = c.args in
    let name = a.model_name.now in
    let g = c.well_formed.0.1.1 in
    let e =
    fits-if a.m name (octets-all name (λ i. omega (arith, c.shared_slice_known-1.given i))) g.0.1 g.1.0.1 g.1.1.0.1
    g.1.1.1.0.1 g.1.1.1.1.0.1 g.1.1.1.1.1.0.1 g.1.1.1.1.1.1.0.1 in
    write-all battery_info (raw_values a.m name_only name) a.out.now refl (sym e ∙ le-leb (length name) 31 c.if-model_name-gt31.false) (23 + length name) (size a.m name)
    (octets-all a.out.now (λ i. omega (arith, c.slice_known-1.given i))) c.if-out-n.false c.write_bytes.new.s
    (stored a.m name a.out.now c.write_floats.new.out c.write_others.new.out c.write_bytes.new.s (omega (arith, c.if-out-n.false))
    c.write_floats.ensures c.write_others.ensures c.write_bytes.ensures)
