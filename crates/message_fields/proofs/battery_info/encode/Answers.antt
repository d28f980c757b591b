-- `battery_info::encode` meets its contract: the message call on the row's numbers; 17 for what is no float.
use mathlib.Core.Path.{◌≡◌, refl, sym, ap, ◌∙◌}
use mathlib.Core.Bool.{Bool, true, false, not}
use mathlib.Core.List.{List}
use Prim.Native.Nat.{ℕ}
use native.Mathlib.Omega.{arith}
use Rattle.shape.specs.Answer.{Answer, refused, refuse_if, wrote}
use Rattle.shape.specs.Shape.{written}
use Rattle.equipment_power.specs.BatteryInfo.{name_only, battery_info, raw_values}
use Rattle.equipment_power.specs.declared.battery_info.Raw.{Raw}
use Rattle.row.proofs.Rows.{write-short, write-refused, write_as}
use Rattle.row.proofs.Lengths.{word_fits}
use Rattle.message_fields.proofs.battery_info.encode.Goals as goal

no_floats : (b : Bool) (r : Answer (List ℕ)) → b ≡ false → refuse_if (not b) 17 r ≡ refused 17
unfolding refuse_if
no_floats b r e = rw e

floats : (b : Bool) (r : Answer (List ℕ)) → b ≡ true → r ≡ refuse_if (not b) 17 r
unfolding refuse_if
floats b r e = rw e

pub returns-then-fields-lt15 : goal.returns-then-fields-lt15
returns-then-fields-lt15 c = let a = c.args in write-short 15 a.fields.now _ a.out.now (omega arith)

pub returns-then-not-are_floats : goal.returns-then-not-are_floats
returns-then-not-are_floats c =
    let a = c.args in
    write-refused 15 a.fields.now _ a.out.now (omega arith) 17 (no_floats _ _ (sym c.are_floats.ensures ∙ c.if-not-are_floats.true))

pub from-requires : goal.from-requires
from-requires c = (omega arith, sym c.are_floats.ensures ∙ c.if-not-are_floats.false)

pub of_written-requires : goal.of_written-requires
of_written-requires c =
    let a = c.args in
    word_fits battery_info refl _ a.out.now _ _ c.encode_raw.ensures

pub returns : goal.returns
returns c =
    let a = c.args in
    let m = a.out.now in
    write_as 15 a.fields.now _ m (omega arith) _ _ (c.encode_raw.ensures ∙ ap (λ (x : Raw). written battery_info (raw_values x name_only a.model_name.now) m) c.from.ensures ∙ ap (λ (r : Answer (List ℕ)). wrote r m) (floats _ _ (sym c.are_floats.ensures ∙ c.if-not-are_floats.false))) _ c.of_written.ensures
