-- BatteryInfo: what its reader and its writer go by.
use mathlib.Core.Path.{◌≡◌, refl, sym, ap, ◌∙◌}
use mathlib.Core.Bool.{Bool}
use mathlib.Core.List.{List, [], ◌∷◌, ◌++◌, append_assoc, append-nil}
use Prim.Native.Nat.{ℕ, ◌+◌, ◌*◌, ◌≤◌, ◌<◌}
use native.Mathlib.Omega.{arith}
use borrow.Author.Tests.{lt-ltb}
use lib.Dec.{leb}
use lib.IntN.{ℤ}
use lib.ListN.{length, length-append}
use lib.Ieee.{Float}
use Rattle.bits.specs.Order.{Octets, unpack, to_bits, store}
use Rattle.bits.proofs.Numbers.{length-to_bits}
use Rattle.shape.specs.Answer.{Answer, refused, got}
use Rattle.shape.specs.Shape.{end, Values, encode, decoded, fits}
use Rattle.shape.proofs.Fields.{and-true, length-item_bits}
use Rattle.shape.proofs.Reading.{Slot, value, same, refused-on, got-on, ht-short, ht-long, ht-held, ht-only}
use Rattle.shape.proofs.Writing.{more, more-from, item-bytes, all-bytes}
use Rattle.shape.proofs.CastFacts.{cast}
use Rattle.shape.specs.declared.answer.Place.{Place}
use Rattle.equipment_power.specs.BatteryInfo.{floats_then, others_then, name_only, battery_info, model_name_in, float_values, other_values, raw_values, raw_of, raw_in, raw_at}
use Rattle.equipment_power.specs.Laws.{found}
use Rattle.equipment_power.specs.declared.battery_info.BatteryInfo.{BatteryInfo}
use Rattle.equipment_power.specs.declared.battery_info.Raw.{Raw}

-- ── reading ──

abbrev head : List Slot
head =
    same 16 ∷ same 16 ∷ same 16 ∷ same 16 ∷ same 16 ∷ same 16 ∷ same 16 ∷ value 11 ∷ value 7 ∷ value 7 ∷ value 7 ∷ value 8 ∷ value 32 ∷ []

module _ (s : List ℕ) (o : Octets s) where
  pub short : length s < 23 → raw_in s ≡ refused 15
  short h = refused-on raw_of refl (ht-short head 23 refl 31 s o h)

  pub long : 23 ≤ length s → 31 < length (model_name_in s) → raw_in s ≡ refused 16
  long h l = refused-on raw_of refl (ht-long head 23 refl 31 s o h l)

  pub held : 23 ≤ length s → length (model_name_in s) ≤ 31 → raw_in s ≡ got (raw_at (unpack s), record { at = 23; len = length (model_name_in s) })
  unfolding raw_at
  held h l = got-on raw_of refl (ht-held head 23 refl 31 s o h l)

  pub only : (v : Values battery_info) → decoded battery_info s ≡ got v → v ≡ found s
  unfolding raw_at
  only v e = ht-only head 23 refl 31 s o v e

pub made : {t v c p r f h t' v' c' p' r' f' h' : ℕ} {s g k d b i s' g' k' d' b' i' : ℤ} → t ≡ t' → v ≡ v' → c ≡ c' → p ≡ p' → r ≡ r' → f ≡ f' → h ≡ h' → s ≡ s' → g ≡ g' → k ≡ k' → d ≡ d' → b ≡ b' → i ≡ i'
    → ◌≡◌ {A = Raw} (record {
      temperature = t;
      voltage = v;
      current = c;
      average_power_10sec = p;
      remaining_capacity_wh = r;
      full_charge_capacity_wh = f;
      hours_to_full_charge = h;
      status_flags = s;
      state_of_health_pct = g;
      state_of_charge_pct = k;
      state_of_charge_pct_stdev = d;
      battery_id = b;
      model_instance_id = i;
    })
    (record {
      temperature = t';
      voltage = v';
      current = c';
      average_power_10sec = p';
      remaining_capacity_wh = r';
      full_charge_capacity_wh = f';
      hours_to_full_charge = h';
      status_flags = s';
      state_of_health_pct = g';
      state_of_charge_pct = k';
      state_of_charge_pct_stdev = d';
      battery_id = b';
      model_instance_id = i';
    })
made e₀ e₁ e₂ e₃ e₄ e₅ e₆ e₇ e₈ e₉ e₁₀ e₁₁ e₁₂ = cc

pub infos : {t v c p r f h t' v' c' p' r' f' h' : Float} {s g k d b i s' g' k' d' b' i' : ℤ} → t ≡ t' → v ≡ v' → c ≡ c' → p ≡ p' → r ≡ r' → f ≡ f' → h ≡ h' → s ≡ s' → g ≡ g' → k ≡ k' → d ≡ d' → b ≡ b' → i ≡ i'
    → ◌≡◌ {A = BatteryInfo} (record {
      temperature = t;
      voltage = v;
      current = c;
      average_power_10sec = p;
      remaining_capacity_wh = r;
      full_charge_capacity_wh = f;
      hours_to_full_charge = h;
      status_flags = s;
      state_of_health_pct = g;
      state_of_charge_pct = k;
      state_of_charge_pct_stdev = d;
      battery_id = b;
      model_instance_id = i;
    })
    (record {
      temperature = t';
      voltage = v';
      current = c';
      average_power_10sec = p';
      remaining_capacity_wh = r';
      full_charge_capacity_wh = f';
      hours_to_full_charge = h';
      status_flags = s';
      state_of_health_pct = g';
      state_of_charge_pct = k';
      state_of_charge_pct_stdev = d';
      battery_id = b';
      model_instance_id = i';
    })
infos e₀ e₁ e₂ e₃ e₄ e₅ e₆ e₇ e₈ e₉ e₁₀ e₁₁ e₁₂ = cc

pub placed : {m m' : Raw} {l l' : ℕ} → m ≡ m' → l ≡ l'
    → ◌≡◌ {A = Answer (Raw × Place)} (got (m, record { at = 23; len = l })) (got (m', record { at = 23; len = l' }))
placed a b = cc

-- ── writing ──

module _ (m : Raw) where
  abbrev float-bits : List Bool
  float-bits = encode (floats_then end) (float_values m end tt)

  abbrev other-bits : List Bool
  other-bits = encode (others_then end) (other_values m end tt)

  float_size : length float-bits ≡ 112
  unfolding encode
  float_size = simp (length-append, length-to_bits)

  other-size : length other-bits ≡ 72
  unfolding encode
  other-size = simp (length-append, length-to_bits)

  pub stored_floats : (m₀ m₁ m₂ m₃ m₄ m₅ m₆ m₇ : List ℕ) → 14 ≤ length m₀ → m₁ ≡ store m₀ 0 (to_bits 16 m.temperature)
      → m₂ ≡ store m₁ 16 (to_bits 16 m.voltage) → m₃ ≡ store m₂ 32 (to_bits 16 m.current) → m₄ ≡ store m₃ 48 (to_bits 16 m.average_power_10sec)
      → m₅ ≡ store m₄ 64 (to_bits 16 m.remaining_capacity_wh) → m₆ ≡ store m₅ 80 (to_bits 16 m.full_charge_capacity_wh)
      → m₇ ≡ store m₆ 96 (to_bits 16 m.hours_to_full_charge) → m₇ ≡ store m₀ 0 float-bits
  unfolding encode
  stored_floats m₀ m₁ m₂ m₃ m₄ m₅ m₆ m₇ h e₁ e₂ e₃ e₄ e₅ e₆ e₇ =
      let a = to_bits 16 m.temperature in
      let b = to_bits 16 m.voltage in
      let c = to_bits 16 m.current in
      let d = to_bits 16 m.average_power_10sec in
      let e = to_bits 16 m.remaining_capacity_wh in
      let f = to_bits 16 m.full_charge_capacity_wh in
      let g = to_bits 16 m.hours_to_full_charge in
      let f₂ = more m₀ m₁ m₂ a b 16 e₁ (length-to_bits 16 m.temperature) (omega arith) e₂ in
      let f₃ = more m₀ m₂ m₃ (a ++ b) c 32 f₂ (simp (length-append, length-to_bits)) (omega arith) e₃ in
      let f₄ = more m₀ m₃ m₄ (a ++ b ++ c) d 48 f₃ (simp (length-append, length-to_bits)) (omega arith) e₄ in
      let f₅ = more m₀ m₄ m₅ (a ++ b ++ c ++ d) e 64 f₄ (simp (length-append, length-to_bits)) (omega arith) e₅ in
      let f₆ = more m₀ m₅ m₆ (a ++ b ++ c ++ d ++ e) f 80 f₅ (simp (length-append, length-to_bits)) (omega arith) e₆ in
      let f₇ = more m₀ m₆ m₇ (a ++ b ++ c ++ d ++ e ++ f) g 96 f₆ (simp (length-append, length-to_bits)) (omega arith) e₇ in
      f₇ ∙ ap (λ (l : List Bool). store m₀ 0 l) (simp (append_assoc, append-nil))

  pub stored-others : (m₀ m₁ m₂ m₃ m₄ m₅ m₆ : List ℕ) → 23 ≤ length m₀ → m₁ ≡ store m₀ 112 (to_bits 11 (cast 11 m.status_flags))
      → m₂ ≡ store m₁ 123 (to_bits 7 (cast 7 m.state_of_health_pct)) → m₃ ≡ store m₂ 130 (to_bits 7 (cast 7 m.state_of_charge_pct))
      → m₄ ≡ store m₃ 137 (to_bits 7 (cast 7 m.state_of_charge_pct_stdev)) → m₅ ≡ store m₄ 144 (to_bits 8 (cast 8 m.battery_id))
      → m₆ ≡ store m₅ 152 (to_bits 32 (cast 32 m.model_instance_id)) → m₆ ≡ store m₀ 112 other-bits
  unfolding encode
  stored-others m₀ m₁ m₂ m₃ m₄ m₅ m₆ h e₁ e₂ e₃ e₄ e₅ e₆ =
      let a = to_bits 11 (cast 11 m.status_flags) in
      let b = to_bits 7 (cast 7 m.state_of_health_pct) in
      let c = to_bits 7 (cast 7 m.state_of_charge_pct) in
      let d = to_bits 7 (cast 7 m.state_of_charge_pct_stdev) in
      let e = to_bits 8 (cast 8 m.battery_id) in
      let f = to_bits 32 (cast 32 m.model_instance_id) in
      let f₂ = more-from 112 m₀ m₁ m₂ a b 123 e₁ (simp length-to_bits) (omega arith) e₂ in
      let f₃ = more-from 112 m₀ m₂ m₃ (a ++ b) c 130 f₂ (simp (length-append, length-to_bits)) (omega arith) e₃ in
      let f₄ = more-from 112 m₀ m₃ m₄ (a ++ b ++ c) d 137 f₃ (simp (length-append, length-to_bits)) (omega arith) e₄ in
      let f₅ = more-from 112 m₀ m₄ m₅ (a ++ b ++ c ++ d) e 144 f₄ (simp (length-append, length-to_bits)) (omega arith) e₅ in
      let f₆ = more-from 112 m₀ m₅ m₆ (a ++ b ++ c ++ d ++ e) f 152 f₅ (simp (length-append, length-to_bits)) (omega arith) e₆ in
      f₆ ∙ ap (λ (l : List Bool). store m₀ 112 l) (simp (append_assoc, append-nil))

  module _ (name : List ℕ) where
    pub size : length (encode battery_info (raw_values m name_only name)) ≡ (23 + length name) * 8
    unfolding encode
    size = simp (length-append, length-to_bits, length-item_bits) (omega arith)

    -- 16 bits hold every float
    pub fit : Octets name → m.temperature < 65536 → m.voltage < 65536 → m.current < 65536 → m.average_power_10sec < 65536
        → m.remaining_capacity_wh < 65536 → m.full_charge_capacity_wh < 65536 → m.hours_to_full_charge < 65536
        → leb (length name) 31 ≡ fits battery_info (raw_values m name_only name)
    unfolding fits
    fit o a b c d e f g =
        rw (lt-ltb _ _ a, lt-ltb _ _ b, lt-ltb _ _ c, lt-ltb _ _ d, lt-ltb _ _ e, lt-ltb _ _ f, lt-ltb _ _ g, all-bytes name o) (simp and-true)

    bits : encode battery_info (raw_values m name_only name) ≡ float-bits ++ (other-bits ++ unpack name)
    unfolding encode
    bits = rw (item-bytes name) (sym (simp (append_assoc, append-nil)))

    pub stored : (m₀ m₁ m₂ m₃ : List ℕ) → 23 + length name ≤ length m₀ → m₁ ≡ store m₀ 0 float-bits → m₂ ≡ store m₁ 112 other-bits
        → m₃ ≡ store m₂ 184 (unpack name) → m₃ ≡ store m₀ 0 (encode battery_info (raw_values m name_only name))
    stored m₀ m₁ m₂ m₃ h e₁ e₂ e₃ =
        let f₂ = more m₀ m₁ m₂ float-bits other-bits 112 e₁ float_size (omega arith) e₂ in
        let f₃ = more m₀ m₂ m₃ (float-bits ++ other-bits) (unpack name) 184 f₂ (simp (length-append, float_size, other-size)) (omega arith) e₃ in
        f₃ ∙ ap (λ (l : List Bool). store m₀ 0 l) (append_assoc float-bits other-bits (unpack name) ∙ sym bits)
