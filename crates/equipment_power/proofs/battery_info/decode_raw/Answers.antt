-- `battery_info::decode_raw` meets its contract: 15, 16 or the numbers and the place of the name.
use mathlib.Core.List.{List}
use mathlib.Core.Path.{sym, ap, ◌∙◌}
use Prim.Native.Nat.{ℕ}
use native.Mathlib.Omega.{arith}
use lib.ListN.{length}
use Rattle.bits.proofs.Octets.{octets-all}
use Rattle.shape.specs.Answer.{numbered}
use Rattle.equipment_power.proofs.BatteryInfoFacts.{short, long, held, placed}
use Rattle.equipment_power.proofs.battery_info.decode_raw.Goals as goal

pub returns-then-payload-lt23 : goal.returns-then-payload-lt23
returns-then-payload-lt23 c =
    let s = c.args.payload.now in
    ap numbered (sym (short s (octets-all s (λ i. omega (arith, c.shared_slice_known-1.given i))) (omega arith)))

pub returns-then-len-gt31 : goal.returns-then-len-gt31
returns-then-len-gt31 c =
    let s = c.args.payload.now in
    let e = ap (λ (l : List ℕ). length l) c.model_name-len.ensures in
    ap numbered (sym (long s (octets-all s (λ i. omega (arith, c.shared_slice_known-1.given i))) (omega arith) (omega (arith, e))))

pub returns : goal.returns
returns c =
    let s = c.args.payload.now in
    let e = ap (λ (l : List ℕ). length l) c.model_name-len.ensures in
    ap numbered
    (placed c.read_numbers.ensures e
    ∙ sym (held s (octets-all s (λ i. omega (arith, c.shared_slice_known-1.given i))) (omega arith) (omega (arith, e))))
