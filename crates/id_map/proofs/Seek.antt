-- The lowest place that passes a test, and the place that a topic gets.
use mathlib.Core.Path.{◌≡◌, refl, sym, ap, ◌∙◌}
use mathlib.Core.Bool.{Bool, true, false}
use mathlib.Core.List.{List, [], ◌∷◌}
use mathlib.Core.Option.{Option, none, some}
use Prim.Native.Nat.{ℕ, zero, suc, ◌+◌, ◌-◌, ◌≤◌, ◌<◌}
use native.Mathlib.Nat.{zero-add}
use native.Mathlib.Omega.{arith}
use lib.Dec.{eqb, leb}
use lib.ListN.{length}
use Rattle.rules.specs.Limits.{entries_max, unused_age}
use Rattle.bits.specs.Tabulate.{tabulate}
use Rattle.bits.proofs.Tabulate.{length-tabulate}
use Rattle.id_map.specs.inside.Find.{place_or32}
use Rattle.id_map.specs.Layout.{key_at, time_at, topic_of_key, slot_at, map_of, keys_at}
use Rattle.id_map.proofs.Keys.{of-key, free-key, slot-used, slot-free}
use Rattle.keys.specs.inside.Keys.{word_at, lowest}
use Rattle.keys.proofs.Lowest.{lowest-same}
use Rattle.rules.specs.Map.{Slot, is_of, is_free, is_unused, Map, slot_for}
use Rattle.rules.specs.Table.{plus1, seek, or_else}
use Rattle.rules.specs.Tests.{pick}

-- ── one place ──

module _ (m : List ℕ) (i t : ℕ) where
  pub none-unused : key_at m i ≡ 0 → is_unused t (slot_at m i) ≡ false
  none-unused z = ap (is_unused t) (slot-free m i z)

  pub age-unused : (key_at m i ≡ 0 → ⊥) → is_unused t (slot_at m i) ≡ leb unused_age (t - time_at m i)
  age-unused z = ap (is_unused t) (slot-used m i z)

-- ── the lowest place is the one that the rules seek ──

-- of n places from i on
abbrev from : ℕ → ℕ → Option ℕ → ℕ
from i n none = i + n
from i n (some j) = i + j

from_suc : (i n : ℕ) (o : Option ℕ) → from (suc i) n o ≡ from i (suc n) (plus1 o)
from_suc i n none = omega arith
from_suc i n (some j) = omega arith

lowest-seek : (t : Slot → Bool) (f : ℕ → Slot) (n i : ℕ) → lowest (λ j. t (f j)) i n ≡ from i n (seek t (tabulate f i n))
unfolding lowest seek tabulate
lowest-seek t f zero i = omega arith
lowest-seek t f (suc n) i = go (t (f i)) (lowest-seek t f n (suc i)) where
  go : (b : Bool) → lowest (λ j. t (f j)) (suc i) n ≡ from (suc i) n (seek t (tabulate f (suc i) n))
      → pick b i (lowest (λ j. t (f j)) (suc i) n) ≡ from i (suc n) (pick b (some 0) (plus1 (seek t (tabulate f (suc i) n))))
  go true e = omega arith
  go false e = e ∙ from_suc i n (seek t (tabulate f (suc i) n))

from_zero : (o : Option ℕ) → from 0 entries_max o ≡ place_or32 o
from_zero none = refl
from_zero (some j) = zero-add j

-- in the whole map
in_all : (t : Slot → Bool) (m : List ℕ) → lowest (λ j. t (slot_at m j)) 0 entries_max ≡ place_or32 (seek t (map_of m))
unfolding map_of
in_all t m = lowest-seek t (slot_at m) entries_max 0 ∙ from_zero (seek t (map_of m))

-- ── the place for a topic ──

abbrev pub Below : ℕ → Option ℕ → Type 0
Below n none = Unit {0}
Below n (some i) = i < n

pub seek-below : {A : Type 0} (t : A → Bool) (l : List A) → Below (length l) (seek t l)
unfolding seek
seek-below t [] = tt
seek-below t (x ∷ l) = go (t x) (seek t l) (seek-below t l) where
  go : (b : Bool) (o : Option ℕ) → Below (length l) o → Below (suc (length l)) (pick b (some 0) (plus1 o))
  go true o h = omega arith
  go false none h = tt
  go false (some i) h = omega arith

or-below : (n : ℕ) (o p : Option ℕ) → Below n o → Below n p → Below n (or_else o p)
or-below n none p h k = k
or-below n (some i) p h k = h

pub slot-below : (k : _) (now : ℕ) (m : Map) → Below (length m) (slot_for k now m)
unfolding slot_for
slot-below k now m =
    or-below (length m) (seek (is_of k) m) (or_else (seek is_free m) (seek (is_unused now) m)) (seek-below (is_of k) m)
    (or-below (length m) (seek is_free m) (seek (is_unused now) m) (seek-below is_free m) (seek-below (is_unused now) m))

pub length-map_of : (m : List ℕ) → length (map_of m) ≡ entries_max
unfolding map_of
length-map_of m = length-tabulate (slot_at m) 0 entries_max

or-found : (o p : Option ℕ) → place_or32 o < entries_max → place_or32 o ≡ place_or32 (or_else o p)
or-found none p h = absurd (omega arith)
or-found (some i) p h = refl

or-next : (o p : Option ℕ) → Below entries_max o → entries_max ≤ place_or32 o → place_or32 p ≡ place_or32 (or_else o p)
or-next none p b h = refl
or-next (some i) p b h = absurd (omega arith)

-- ── by its key, empty, or unused ──

module _ (m : List ℕ) (k now : ℕ) (some_key : k ≡ 0 → ⊥) where
  abbrev with-key : ℕ → ℕ
  with-key q = lowest (λ i. eqb (word_at m keys_at i) q) 0 entries_max

  of-k : with-key k ≡ place_or32 (seek (is_of (topic_of_key k)) (map_of m))
  unfolding key_at
  of-k = sym (lowest-same (λ i. is_of (topic_of_key k) (slot_at m i)) (λ i. eqb (word_at m keys_at i) k) (λ i. of-key m i k some_key) entries_max 0) ∙ in_all (is_of (topic_of_key k)) m

  of_none : with-key 0 ≡ place_or32 (seek is_free (map_of m))
  unfolding key_at
  of_none = sym (lowest-same (λ i. is_free (slot_at m i)) (λ i. eqb (word_at m keys_at i) 0) (λ i. free-key m i) entries_max 0) ∙ in_all is_free m

  in_map : (t : Slot → Bool) → Below entries_max (seek t (map_of m))
  in_map t = rw (length-map_of m) at (seek-below t (map_of m))

  abbrev goal : ℕ → Type 0
  goal r = r ≡ place_or32 (slot_for (topic_of_key k) now (map_of m))

  abbrev others : Option ℕ
  others = or_else (seek is_free (map_of m)) (seek (is_unused now) (map_of m))

  module _ (f : ℕ) (ef : f ≡ with-key k) where
    pub place_found : f < entries_max → goal f
    unfolding slot_for
    place_found h =
        let e = ef ∙ of-k in
        e ∙ or-found (seek (is_of (topic_of_key k)) (map_of m)) others (omega arith)

    module _ (h : entries_max ≤ f) where
      next : place_or32 others ≡ place_or32 (slot_for (topic_of_key k) now (map_of m))
      unfolding slot_for
      next =
          let e = ef ∙ of-k in
          or-next (seek (is_of (topic_of_key k)) (map_of m)) others (in_map (is_of (topic_of_key k))) (omega arith)

      module _ (g : ℕ) (eg : g ≡ with-key 0) where
        pub place-free : g < entries_max → goal g
        place-free l =
            let e = eg ∙ of_none in
            e ∙ or-found (seek is_free (map_of m)) (seek (is_unused now) (map_of m)) (omega arith) ∙ next

        pub place-unused : entries_max ≤ g → (r : ℕ) → r ≡ lowest (λ i. is_unused now (slot_at m i)) 0 entries_max → goal r
        place-unused l r er =
            let e = eg ∙ of_none in
            er ∙ in_all (is_unused now) m ∙ or-next (seek is_free (map_of m)) (seek (is_unused now) (map_of m)) (in_map is_free) (omega arith) ∙ next
