-- The whole map in the bytes.
use mathlib.Core.Path.{◌≡◌, refl, sym, ap, ap₂, subst, ◌∙◌}
use mathlib.Core.List.{List, ◌∷◌}
use Prim.Native.Nat.{ℕ, zero, suc, ◌+◌, ◌%◌, ◌≤◌, ◌<◌}
use native.Mathlib.Omega.{arith}
use lib.ListN.{length, set}
use Rattle.rules.specs.Limits.{entries_max}
use Rattle.bits.specs.Order.{Octets}
use Rattle.bits.specs.Tabulate.{tabulate}
use Rattle.bits.proofs.Tabulate.{tab-same}
use Rattle.id_map.specs.Layout.{size, key_at, slot_at, map_of, with_slot, written}
use Rattle.id_map.proofs.Places.{Holdable, length-with_slot, same-key-at, same-slot, slot-back, slot_kept}
use Rattle.rules.specs.Map.{Topic, Slot, used, Map}

-- every key from j on that is not 0 is odd
abbrev pub OddFrom : List ℕ → ℕ → Type 0
OddFrom m j = (l : ℕ) → j ≤ l → l < entries_max → (key_at m l ≡ 0 → ⊥) → key_at m l % 2 ≡ 1

-- writing the map that is there
pub written-kept : (m : List ℕ) → size ≤ length m → Octets m → (n j : ℕ) → j + n ≤ entries_max → OddFrom m j → written m j (tabulate (slot_at m) j n) ≡ m
unfolding written tabulate
written-kept m long o zero j h r = refl
written-kept m long o (suc n) j h r =
    ap (λ (x : List ℕ). written x (suc j) (tabulate (slot_at m) (suc j) n)) (slot_kept m j long (omega arith) o (r j (omega arith) (omega arith)))
    ∙ written-kept m long o n (suc j) (omega arith) (λ l a b. r l (omega arith) b)

-- writing the map with one place changed
pub written-set : (m : List ℕ) → size ≤ length m → Octets m → (s : Slot) → (x n j : ℕ) → x < n → j + n ≤ entries_max → Octets (with_slot m (j + x) s) → OddFrom m j
    → written m j (set (tabulate (slot_at m) j n) x s) ≡ with_slot m (j + x) s
unfolding written tabulate
written-set m long o s x zero j h k b r = absurd (omega arith)
written-set m long o s zero (suc n) j h k b r =
    let m' = with_slot m j s in
    let l' : length m' ≡ length m = length-with_slot m j long (omega arith) s in
    let odd : OddFrom m' (suc j) = λ l a c. subst (λ (x : ℕ). (x ≡ 0 → ⊥) → x % 2 ≡ 1) (sym (same-key-at m j long (omega arith) s l c (λ q. omega arith))) (r l (omega arith) c) in
    let same : tabulate (slot_at m) (suc j) n ≡ tabulate (slot_at m') (suc j) n =
    tab-same (slot_at m) (slot_at m') n (suc j) (λ l a c. sym (same-slot m j long (omega arith) s l (omega arith) (λ q. omega arith))) in
    let z : j ≡ j + 0 = omega arith in
    ap (written m' (suc j)) same ∙ written-kept m' (omega arith) (subst (λ (y : ℕ). Octets (with_slot m y s)) (sym z) b) n (suc j) (omega arith) odd
    ∙ ap (λ (y : ℕ). with_slot m y s) z
written-set m long o s (suc x) (suc n) j h k b r =
    let z : suc j + x ≡ j + suc x = omega arith in
    ap (λ (y : List ℕ). written y (suc j) (set (tabulate (slot_at m) (suc j) n) x s)) (slot_kept m j long (omega arith) o (r j (omega arith) (omega arith)))
    ∙ written-set m long o s x n (suc j) (omega arith) (omega arith) (subst (λ (y : ℕ). Octets (with_slot m y s)) (sym z) b) (λ l a c. r l (omega arith) c)
    ∙ ap (λ (y : ℕ). with_slot m y s) z

-- the view of the bytes with one place written
view-from : (m : List ℕ) → size ≤ length m → (k : Topic) (t since : ℕ) → Holdable k since → (i : ℕ) → i < entries_max
    → (x n j : ℕ) → j + x ≡ i → x < n → j + n ≤ entries_max
    → tabulate (slot_at (with_slot m i (used k t since))) j n ≡ set (tabulate (slot_at m) j n) x (used k t since)
unfolding tabulate
view-from m long k t since w i hi x zero j e h b = absurd (omega arith)
view-from m long k t since w i hi zero (suc n) j e h b =
    let q : j ≡ i = omega arith in
    ap₂ (λ (y : Slot) (ys : Map). y ∷ ys)
    (ap (slot_at (with_slot m i (used k t since))) q ∙ slot-back m i long hi k t since w)
    (tab-same (slot_at (with_slot m i (used k t since))) (slot_at m) n (suc j) (λ l a c. same-slot m i long hi (used k t since) l (omega arith) (λ z. omega arith)))
view-from m long k t since w i hi (suc x) (suc n) j e h b =
    ap₂ (λ (y : Slot) (ys : Map). y ∷ ys)
    (same-slot m i long hi (used k t since) j (omega arith) (λ z. omega arith))
    (view-from m long k t since w i hi x n (suc j) (omega arith) (omega arith) (omega arith))

pub view-set : (m : List ℕ) → size ≤ length m → (k : Topic) (t since : ℕ) → Holdable k since → (i : ℕ) → i < entries_max
    → map_of (with_slot m i (used k t since)) ≡ set (map_of m) i (used k t since)
unfolding map_of
view-set m long k t since w i h = view-from m long k t since w i h i entries_max 0 (omega arith) h (omega arith)
