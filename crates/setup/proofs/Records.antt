-- A record's kind and type in one number; one turn of each loop over the records.
use mathlib.Core.Path.{◌≡◌, refl, sym, ap, ap₂, ◌∙◌}
use mathlib.Core.Bool.{Bool, true, false, not, ◌&&◌}
use mathlib.Core.List.{List, [], ◌∷◌}
use Prim.Native.Nat.{ℕ, suc, ◌+◌, ◌*◌, ◌-◌, ◌/◌, ◌%◌, ◌≤◌, ◌<◌}
use native.Mathlib.Numerals.{add-one}
use native.Mathlib.Omega.{arith}
use borrow.Author.Tests.{eqb-true, eqb-false, eq-eqb, ne_eqb}
use lib.Dec.{ltb, eqb}
use lib.ListN.{length, get_or}
use lib.Seq.{drop-cons}
use Rattle.rules.specs.Limits.{subscription_record}
use Rattle.bits.specs.Little.{le}
use Rattle.bits.specs.Part.{span}
use Rattle.bits.specs.Tabulate.{tabulate}
use Rattle.rules.specs.Setup.{Subscription, type_fits, alike, unlike, all_fit}
use Rattle.setup.specs.Setup.{record_at}
use Rattle.setup.specs.inside.Record.{Keyed}
use Rattle.subscriptions.proofs.Fit.{key_of}

-- ── the first five bytes ──

first : (r : List ℕ) (at : ℕ) → at < length r → le (span r at 5) ≡ get_or r at 0 + 256 * le (span r (at + 1) 4)
unfolding le
first r at h = rw (add-one, drop-cons r at 0)

pub keyed : (r : List ℕ) (j k : ℕ) → j * subscription_record + subscription_record ≤ length r → get_or r (j * subscription_record) 0 < 256 → k ≡ le (span r (j * subscription_record) 5) → Keyed (record_at r j) k
unfolding record_at
keyed r j k h b e = let f = first r (j * subscription_record) (omega arith) in record { kind = omega arith; type = omega arith }

-- ── ranges ──

module _ (k : ℕ) where
  pub no_kind : 1 < k % 256 → false ≡ type_fits (k % 256) (k / 256)
  no_kind h =
      let z : eqb (k % 256) 0 ≡ false = ne_eqb (k % 256) 0 (λ q. omega arith) in
      let o : eqb (k % 256) 1 ≡ false = ne_eqb (k % 256) 1 (λ q. omega arith) in
      rw (z, o)

  pub message : k % 256 ≡ 0 → ltb (k / 256) 65536 ≡ type_fits (k % 256) (k / 256)
  message h = let z : eqb (k % 256) 0 ≡ true = eq-eqb (k % 256) 0 h in rw z

  pub service : k % 256 ≤ 1 → (k % 256 ≡ 0 → ⊥) → ltb (k / 256) 256 ≡ type_fits (k % 256) (k / 256)
  service h n =
      let z : eqb (k % 256) 0 ≡ false = ne_eqb (k % 256) 0 n in
      let o : eqb (k % 256) 1 ≡ true = eq-eqb (k % 256) 1 (omega arith) in
      rw (z, o)

module _ (a : Subscription) (k : ℕ) (e : Keyed a k) where
  pub same-type : type_fits a.kind a.type ≡ type_fits (k % 256) (k / 256)
  same-type = ap₂ type_fits e.kind e.type

  pub same_key : k % 256 * 65536 + k / 256 ≡ key_of a
  same_key = omega arith

-- ── no two alike ──

module _ {A : Type 0} (f : ℕ → A) where
  tab-step : (i n : ℕ) → i < n → tabulate f i (n - i) ≡ f i ∷ tabulate f (suc i) (n - suc i)
  unfolding tabulate
  tab-step i n h = let k : n - i ≡ suc (n - suc i) = omega arith in rw k

  pub tab-end : (i n : ℕ) → n ≤ i → tabulate f i (n - i) ≡ []
  unfolding tabulate
  tab-end i n h = let k : n - i ≡ 0 = omega arith in rw k

-- two are alike exactly if their numbers are equal
alike-keys : (a b : Subscription) (k q : ℕ) → Keyed a k → Keyed b q → alike a b ≡ eqb q k
alike-keys a b k q e f = go (eqb a.kind b.kind) refl (eqb a.type b.type) refl where
  go : (x : Bool) → eqb a.kind b.kind ≡ x → (y : Bool) → eqb a.type b.type ≡ y → (x && y) ≡ eqb q k
  go true s true t = sym (eq-eqb q k (omega (arith, eqb-true a.kind b.kind s, eqb-true a.type b.type t)))
  go true s false t = sym (ne_eqb q k (λ z. eqb-false a.type b.type t (omega arith)))
  go false s y t = sym (ne_eqb q k (λ z. eqb-false a.kind b.kind s (omega arith)))

module _ (f : ℕ → Subscription) (i n : ℕ) (inside : i < n) where
  next : tabulate f i (n - i) ≡ f i ∷ tabulate f (i + 1) (n - (i + 1))
  next = rw add-one (tab-step f i n inside)

  pub unlike-turn : (a : Subscription) (k q : ℕ) → Keyed a k → Keyed (f i) q → (b : Bool) → eqb q k ≡ b
      → unlike a (tabulate f i (n - i)) ≡ (not b && unlike a (tabulate f (i + 1) (n - (i + 1))))
  unlike-turn a k q ea ef b e =
      ap (unlike a) next ∙ ap (λ (x : Bool). not x && unlike a (tabulate f (i + 1) (n - (i + 1)))) (alike-keys a (f i) k q ea ef ∙ e)

  pub fit-turn : (b c : Bool) → type_fits (f i).kind (f i).type ≡ b → unlike (f i) (tabulate f (i + 1) (n - (i + 1))) ≡ c
      → all_fit (tabulate f i (n - i)) ≡ (b && (c && all_fit (tabulate f (i + 1) (n - (i + 1)))))
  fit-turn b c p q = ap all_fit next ∙ ap₂ (λ (x y : Bool). x && (y && all_fit (tabulate f (i + 1) (n - (i + 1))))) p q
