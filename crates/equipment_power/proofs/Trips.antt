-- The return trips of BatteryInfo. As f32 they follow from those of the payload's own numbers: narrowing undoes widening, and the other way
-- round, float by float.
use mathlib.Core.Path.{◌≡◌, refl, ap, ◌∙◌}
use mathlib.Core.Bool.{Bool, true, false}
use mathlib.Core.List.{List}
use Prim.Native.Nat.{ℕ, ◌+◌, ◌≤◌}
use native.Mathlib.Omega.{arith}
use borrow.Author.Tests.{ltb-true, ltb-false}
use lib.Dec.{ltb, lit≤}
use lib.ListN.{length, drop, length-drop}
use lib.Ieee.{Float}
use Rattle.binary16.specs.Format.{code16}
use Rattle.binary16.specs.Convert.{float_of, binary16_of}
use Rattle.binary16.proofs.Real.{floats-law}
use Rattle.bits.specs.Order.{Octets, unpack, from_bits}
use Rattle.bits.proofs.Bytes.{length-unpack}
use Rattle.bits.proofs.Numbers.{from_bits-lt}
use Rattle.shape.specs.Answer.{got}
use Rattle.shape.specs.Shape.{end, Values, clipped, within, encoded, cleared}
use Rattle.shape.specs.Laws.{Trips}
use Rattle.shape.specs.declared.answer.Place.{Place}
use Rattle.shape.proofs.Reading.{got-on, never}
use Rattle.shape.proofs.RoundTrip.{whole_same}
use Rattle.shape.proofs.Tails.{never-25}
use Rattle.shape.proofs.There.{kept as shape-kept}
use Rattle.shape.proofs.Trip.{trips, through}
use Rattle.equipment_power.specs.BatteryInfo.{others_then, name_only, battery_info, model_name_in, other_values, raw_values, raw_of, raw_in, raw_at, widened_info, narrowed_info, with_floats, info_in}
use Rattle.equipment_power.specs.Laws.{Laws, found, Held, AllHeld, floats, clipped_info, NoNan, patterns}
use Rattle.equipment_power.specs.declared.battery_info.BatteryInfo.{BatteryInfo}
use Rattle.equipment_power.specs.declared.battery_info.Raw.{Raw}
use Rattle.equipment_power.proofs.BatteryInfoFacts.{short, only, made, infos}

raw : Trips battery_info raw_of found
raw = trips battery_info (lit≤ tt) raw_of found only

whole : (p : List ℕ) → Octets p → cleared battery_info p ≡ p
whole = whole_same battery_info tt

-- an f32 that some binary16 equals comes back
same : {x : Float} → Held x → float_of (binary16_of x) ≡ x
same h = floats-law.again h.0 h.1.0 _ h.1.1

same-info : (x : BatteryInfo) → AllHeld (floats x) → widened_info (narrowed_info x) ≡ x
same-info x h =
    infos (same h.0) (same h.1.0) (same h.1.1.0) (same h.1.1.1.0) (same h.1.1.1.1.0) (same h.1.1.1.1.1.0)
    (same h.1.1.1.1.1.1.0) refl refl refl refl refl refl

there : (x : BatteryInfo) (name : List ℕ) (room : ℕ) (p : List ℕ) → AllHeld (floats x)
    → encoded battery_info (raw_values (narrowed_info x) name_only name) room ≡ got p
    → (info_in p ≡ got (clipped_info x, record { at = 23; len = length name })) × (model_name_in p ≡ name)
unfolding clipped
there x name room p h e =
    let r = raw.there (raw_values (narrowed_info x) name_only name) room p e in (
      got-on with_floats refl r.0 ∙ ap (λ (y : BatteryInfo). got (y, record { at = 23; len = length name })) (same-info (clipped_info x) h),
      ap name_of r.1,
    )
  where
    name_of : Values battery_info → List ℕ
    name_of (t, (v, (c, (p, (r, (f, (h, (flags, (health, (charge, (deviation, (id, (model, n))))))))))))) = n

kept : (x : BatteryInfo) → within (others_then end) (other_values (narrowed_info x) end tt) ≡ true → clipped_info x ≡ x
unfolding clipped
kept x e =
    let k = shape-kept (others_then end) tt (other_values (narrowed_info x) end tt) e in
    infos refl refl refl refl refl refl refl (ap (λ (v : Values (others_then end)). v.0) k) (ap (λ (v : Values (others_then end)). v.1.0) k) (ap (λ (v : Values (others_then end)). v.1.1.0) k)
    (ap (λ (v : Values (others_then end)). v.1.1.1.0) k) (ap (λ (v : Values (others_then end)). v.1.1.1.1.0) k) (ap (λ (v : Values (others_then end)). v.1.1.1.1.1.0) k)

-- a binary16 that is no NaN comes back
kept-raw : (p : List ℕ) → 23 ≤ length p → NoNan (patterns (raw_at (unpack p))) → narrowed_info (widened_info (raw_at (unpack p))) ≡ raw_at (unpack p)
unfolding raw_at
kept-raw p l h =
    made (at 0 (omega arith) h.0) (at 16 (omega arith) h.1.0) (at 32 (omega arith) h.1.1.0) (at 48 (omega arith) h.1.1.1.0)
    (at 64 (omega arith) h.1.1.1.1.0) (at 80 (omega arith) h.1.1.1.1.1.0) (at 96 (omega arith) h.1.1.1.1.1.1.0) refl refl refl refl refl refl
  where
    at : (i : ℕ) → i + 16 ≤ 184 → code16 (from_bits 16 (drop i (unpack p))) ≤ 0x7C00
        → binary16_of (float_of (from_bits 16 (drop i (unpack p)))) ≡ from_bits 16 (drop i (unpack p))
    at i b c = floats-law.back (from_bits 16 (drop i (unpack p))) (from_bits-lt 16 (drop i (unpack p)) (omega (arith, length-drop i (unpack p), length-unpack p))) c

back : (p : List ℕ) → Octets p → (x : BatteryInfo) (place : Place) (room : ℕ) → info_in p ≡ got (x, place) → length p ≤ room
    → NoNan (patterns (raw_at (unpack p)))
    → encoded battery_info (raw_values (narrowed_info x) name_only (model_name_in p)) room ≡ got p
back p o x place room e l h =
    let t = through with_floats (raw_in p) (x, place) e in
    let r = raw.back p o t.from room t.is l in
    let m : t.from.0 ≡ raw_at (unpack p) = ap (λ (y : Raw × Place). y.0) r.0 in
    let i : x ≡ widened_info (raw_at (unpack p)) = ap (λ (y : BatteryInfo × Place). y.0) t.maps ∙ ap widened_info m in
    ap (λ (y : Raw). encoded battery_info (raw_values y name_only (model_name_in p)) room) (ap narrowed_info i ∙ kept-raw p (enough (ltb (length p) 23) refl t.is) h)
    ∙ r.1 ∙ ap (λ (q : List ℕ). got q) (whole p o)
  where
    enough : (b : Bool) → ltb (length p) 23 ≡ b → {y : Raw × Place} → raw_in p ≡ got y → 23 ≤ length p
    enough true s g = absurd (never (short p o (ltb-true (length p) 23 s)) g)
    enough false s g = ltb-false (length p) 23 s

pub laws : Laws
laws = record { raw = raw; whole = whole; never-25 = never-25 battery_info (refl, refl); there = there; kept = kept; back = back }
