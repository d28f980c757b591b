-- While a node ID is free there is room for an entry: node IDs that differ, of 1 to 125, are at most 125.
use mathlib.Core.Path.{◌≡◌, refl, sym, ap, ap₂, ◌∙◌}
use mathlib.Core.Bool.{Bool, true, false, not, ◌&&◌, ◌||◌}
use mathlib.Core.List.{List, [], ◌∷◌}
use mathlib.Mathlib.Data.Bool.Basic.{and_elim_left, and_elim_right}
use mathlib.Core.Option.{some}
use Prim.Native.Nat.{ℕ, zero, suc, ◌+◌, ◌-◌, ◌≤◌, ◌<◌}
use native.Mathlib.Omega.{arith}
use borrow.Author.Tests.{eqb-true, eqb-false, eq-eqb, ne_eqb, leb-true, ltb-true, not-true}
use lib.Dec.{eqb, ltb}
use lib.ListN.{length}
use mir.Val.{bool_byte}
use Rattle.rules.specs.Tests.{pick}
use Rattle.allocator_table.specs.declared.free.Reserved.{Reserved}
use Rattle.allocator_table.specs.Layout.{table_of, entry_count, sound_state}
use Rattle.allocator_table.specs.Limits.{node_max}
use Rattle.allocator_table.specs.Table.{Entry, holds, node_of, is_givable, fits_before, sound, is_marked, is_free}
use Rattle.allocator_table.proofs.Soundness.{table-sound, node-some, node-small, node-once, first_fits, rest-sound}
use Rattle.allocator_table.proofs.Tables.{length-table}

-- how many numbers below n a test takes
unfoldable tally : (ℕ → Bool) → ℕ → ℕ
tally f zero = 0
tally f (suc n) = bool_byte (f n) + tally f n

byte_le : (b : Bool) → bool_byte b ≤ 1
byte_le true = omega arith
byte_le false = omega arith

tally-le : (f : ℕ → Bool) (n : ℕ) → tally f n ≤ n
unfolding tally
tally-le f zero = omega arith
tally-le f (suc n) = omega (arith, tally-le f n, byte_le (f n))

tally-miss : (f : ℕ → Bool) (k n : ℕ) → k < n → f k ≡ false → tally f n < n
unfolding tally
tally-miss f k zero h e = absurd (omega arith)
tally-miss f k (suc n) h e = go (eqb k n) refl (tally-miss f k n) where
  go : (b : Bool) → eqb k n ≡ b → (k < n → f k ≡ false → tally f n < n) → bool_byte (f n) + tally f n < suc n
  go true q later = let z : bool_byte (f n) ≡ 0 = ap bool_byte (ap f (sym (eqb-true k n q)) ∙ e) in omega (arith, tally-le f n)
  go false q later = omega (arith, later (omega (arith, eqb-false k n q)) e, byte_le (f n))

tally-same : (f g : ℕ → Bool) (n : ℕ) → ((i : ℕ) → i < n → f i ≡ g i) → tally f n ≡ tally g n
unfolding tally
tally-same f g zero e = refl
tally-same f g (suc n) e = ap₂ (λ (b : Bool) (x : ℕ). bool_byte b + x) (e n (omega arith)) (tally-same f g n (λ i h. e i (omega arith)))

-- one number more
tally-more : (f g : ℕ → Bool) (a : ℕ) → g a ≡ true → ((i : ℕ) → (i ≡ a → ⊥) → g i ≡ false) → f a ≡ false → (n : ℕ) → a < n → tally (λ i. g i || f i) n ≡ suc (tally f n)
unfolding tally
tally-more f g a t o z zero h = absurd (omega arith)
tally-more f g a t o z (suc n) h = go (eqb a n) refl (tally-more f g a t o z n) where
  go : (b : Bool) → eqb a n ≡ b → (a < n → tally (λ i. g i || f i) n ≡ suc (tally f n)) → bool_byte (g n || f n) + tally (λ i. g i || f i) n ≡ suc (bool_byte (f n) + tally f n)
  go true q later =
      let e : a ≡ n = eqb-true a n q in
      let x : bool_byte (g n || f n) ≡ 1 = ap (λ (b : Bool). bool_byte (b || f n)) (ap g (sym e) ∙ t) in
      let y : bool_byte (f n) ≡ 0 = ap bool_byte (ap f (sym e) ∙ z) in
      let s : tally (λ i. g i || f i) n ≡ tally f n = tally-same (λ i. g i || f i) f n (λ i l. ap (λ (b : Bool). b || f i) (o i (λ w. let d : a ≡ i = sym w in omega arith))) in
      omega arith
  go false q later =
      let x : bool_byte (g n || f n) ≡ bool_byte (f n) = ap (λ (b : Bool). bool_byte (b || f n)) (o n (λ w. eqb-false a n q (sym w))) in
      omega (arith, later (omega (arith, eqb-false a n q)))

-- a unique ID's node ID is 1 to 125
pub known-givable : (t : List Entry) (u n : ℕ) → sound t ≡ true → node_of u t ≡ some n → is_givable n ≡ true
unfolding node_of fits_before
known-givable [] u n s e = absurd (let z : ◌≡◌ {A = ℕ} 0 1 = cc in omega arith)
known-givable (e ∷ t) u n s k = go (known-givable t u n (rest-sound e t s)) (eqb e.unique u) k where
  go : (node_of u t ≡ some n → is_givable n ≡ true) → (b : Bool) → pick b (some e.node) (node_of u t) ≡ some n → is_givable n ≡ true
  go later true q = let w : e.node ≡ n = cc in ap is_givable (sym w) ∙ and_elim_left _ _ (first_fits e t s)
  go later false q = later q

tally-none : (n : ℕ) → tally (λ i. holds (suc i) []) n ≡ 0
unfolding tally holds
tally-none zero = refl
tally-none (suc n) = omega (arith, tally-none n)

length-tally : (t : List Entry) → sound t ≡ true → tally (λ i. holds (suc i) t) node_max ≡ length t
unfolding holds
length-tally [] s = tally-none node_max
length-tally (e ∷ t) s =
    let f = first_fits e t s in
    let p = node-some e t f in
    let l = node-small e t f in
    let k : suc (e.node - 1) ≡ e.node = omega arith in
    tally-more (λ i. holds (suc i) t) (λ i. eqb e.node (suc i)) (e.node - 1) (eq-eqb e.node (suc (e.node - 1)) (sym k)) (λ i z. ne_eqb e.node (suc i) (λ w. z (omega arith)))
    (ap (λ (x : ℕ). holds x t) k ∙ node-once e t f) node_max (omega arith)
    ∙ ap suc (length-tally t (rest-sound e t s))

-- ── a free node ID ──

module _ (r : Reserved) (t : List Entry) (n : ℕ) (f : is_free r t n ≡ true) where
  ends : (is_givable n ≡ true) × ((not (eqb n r.own) && (not (is_marked r n) && not (holds n t))) ≡ true)
  unfolding is_free
  ends = (and_elim_left _ _ f, and_elim_right (is_givable n) _ f)

  pub free-givable : is_givable n ≡ true
  free-givable = ends.0

  pub free-positive : 0 < n
  free-positive = ltb-true 0 n (and_elim_left _ _ ends.0)

  pub free-small : n ≤ node_max
  free-small = leb-true n node_max (and_elim_right (ltb 0 n) _ ends.0)

  pub free-not-own : n ≡ r.own → ⊥
  free-not-own = eqb-false n r.own (not-true _ (and_elim_left _ _ ends.1))

  last : (not (is_marked r n) && not (holds n t)) ≡ true
  last = and_elim_right (not (eqb n r.own)) _ ends.1

  pub free-unmarked : is_marked r n ≡ false
  free-unmarked = not-true _ (and_elim_left _ _ last)

  pub free-unheld : holds n t ≡ false
  free-unheld = not-true _ (and_elim_right (not (is_marked r n)) _ last)

pub room : (r : Reserved) (m : List ℕ) (n : ℕ) → sound_state m ≡ true → is_free r (table_of m) n ≡ true → entry_count m < node_max
room r m n s f =
    let t = table_of m in
    let p = free-positive r t n f in
    let l = free-small r t n f in
    let k : suc (n - 1) ≡ n = omega arith in
    let w = tally-miss (λ i. holds (suc i) t) (n - 1) node_max (omega arith) (ap (λ (x : ℕ). holds x t) k ∙ free-unheld r t n f) in
    omega (arith, length-tally t (table-sound m s), length-table m)
