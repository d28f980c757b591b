-- Subscriptions fit exactly if each kind and type is in range and the keys of kind and type are distinct.
use mathlib.Core.Path.{◌≡◌, refl, sym, ap, ap₂, ◌∙◌}
use mathlib.Core.Bool.{Bool, true, false, not, ◌&&◌}
use mathlib.Core.List.{List}
use Prim.Native.Nat.{ℕ, zero, suc, ◌+◌, ◌*◌, ◌/◌, ◌%◌, ◌≤◌, ◌<◌}
use native.Mathlib.Nat.{zero-add}
use native.Mathlib.Omega.{arith}
use borrow.Author.Tests.{eqb-true, eqb-false, eq-eqb, ne_eqb, ltb-true, ltb-false, lt-ltb, le-ltb}
use lib.Dec.{eqb, ltb}
use lib.ListN.{length, take, set}
use lib.Seq.{take-suc-set}
use mir.Val.{bool_byte}
use Rattle.bits.specs.Tabulate.{tabulate}
use Rattle.bits.proofs.Tabulate.{tab-snoc, length-tabulate}
use Rattle.keys.specs.inside.Keys.{count, distinct}
use Rattle.keys.proofs.Counts.{count-two}
use Rattle.keys.proofs.Distinct.{at, First, first-distinct, distinct-once, key-is}
use Rattle.rules.specs.Setup.{Subscription, type_fits, alike, unlike, all_fit}
use Rattle.rules.specs.Tests.{pick}
use Rattle.subscriptions.specs.inside.Subscription.{keys_end}

-- the key of a subscription, and 1 more, so that 0 is an empty place
abbrev pub key_of : Subscription → ℕ
key_of a = a.kind * 65536 + a.type

abbrev pub entry_of : Subscription → ℕ
entry_of a = key_of a + 1

-- ── ranges ──

abbrev pub Fits : Subscription → Type 0
Fits a = type_fits a.kind a.type ≡ true

pub in-range : (kind type : ℕ) → type_fits kind type ≡ true → (kind < 2) × (type < 65536)
in-range kind type e = go (eqb kind 0) refl (eqb kind 1) refl e where
  go : (a : Bool) → eqb kind 0 ≡ a → (b : Bool) → eqb kind 1 ≡ b → pick a (ltb type 65536) (pick b (ltb type 256) false) ≡ true → (kind < 2) × (type < 65536)
  go true p b q e = (omega (arith, eqb-true kind 0 p), ltb-true type 65536 e)
  go false p true q e = (omega (arith, eqb-true kind 1 q), omega (arith, ltb-true type 256 e))
  go false p false q e = absurd (let z : ◌≡◌ {A = ℕ} 0 1 = cc in omega arith)

-- kind 0 with any type, kind 1 with a type below 256
pub type-fits : (k : ℕ) → type_fits (k / 65536) (k % 65536) ≡ ltb k keys_end
type-fits k = go (eqb (k / 65536) 0) refl (eqb (k / 65536) 1) refl (ltb (k % 65536) 256) refl where
  go : (a : Bool) → eqb (k / 65536) 0 ≡ a → (b : Bool) → eqb (k / 65536) 1 ≡ b → (c : Bool) → ltb (k % 65536) 256 ≡ c
      → type_fits (k / 65536) (k % 65536) ≡ ltb k keys_end
  go true p b q c r =
      let t : ltb (k % 65536) 65536 ≡ true = lt-ltb (k % 65536) 65536 (omega arith) in
      let u : ltb k keys_end ≡ true = lt-ltb k keys_end (omega (arith, eqb-true (k / 65536) 0 p)) in
      rw (p, t, u)
  go false p true q true r =
      let u : ltb k keys_end ≡ true = lt-ltb k keys_end (omega (arith, eqb-true (k / 65536) 1 q, ltb-true (k % 65536) 256 r)) in
      rw (p, q, r, u)
  go false p true q false r =
      let u : ltb k keys_end ≡ false = le-ltb k keys_end (omega (arith, eqb-true (k / 65536) 1 q, ltb-false (k % 65536) 256 r)) in
      rw (p, q, r, u)
  go false p false q c r =
      let z : k / 65536 ≡ 0 → ⊥ = eqb-false (k / 65536) 0 p in
      let o : k / 65536 ≡ 1 → ⊥ = eqb-false (k / 65536) 1 q in
      let u : ltb k keys_end ≡ false = le-ltb k keys_end (high (k / 65536) z o (omega arith)) in
      rw (p, q, u)
    where
      high : (x : ℕ) → (x ≡ 0 → ⊥) → (x ≡ 1 → ⊥) → x * 65536 ≤ k → keys_end ≤ k
      high zero z o l = absurd (z refl)
      high (suc zero) z o l = absurd (o refl)
      high (suc (suc x)) z o l = omega arith

-- ── no two alike ──

alike-keys : (a b : Subscription) → Fits a → Fits b → alike a b ≡ eqb (entry_of b) (entry_of a)
alike-keys a b fa fb = go (eqb a.kind b.kind) refl (eqb a.type b.type) refl where
  go : (x : Bool) → eqb a.kind b.kind ≡ x → (y : Bool) → eqb a.type b.type ≡ y → (x && y) ≡ eqb (entry_of b) (entry_of a)
  go true s true t = sym (eq-eqb (entry_of b) (entry_of a) (omega (arith, eqb-true a.kind b.kind s, eqb-true a.type b.type t)))
  go true s false t =
      sym (ne_eqb (entry_of b) (entry_of a) (λ z. eqb-false a.type b.type t (let k = eqb-true a.kind b.kind s in omega arith)))
  go false s y t =
      let ra = in-range a.kind a.type fa in
      let rb = in-range b.kind b.type fb in
      sym (ne_eqb (entry_of b) (entry_of a) (λ z. eqb-false a.kind b.kind s (omega arith)))

module _ (f : ℕ → Subscription) where
  abbrev pub entries : ℕ → ℕ → List ℕ
  entries i n = tabulate (λ j. entry_of (f j)) i n

  -- one entry more in a table
  pub entries-turn : (table : List ℕ) (j e : ℕ) → j < length table → e ≡ entry_of (f j) → take j table ≡ entries 0 j → take (suc j) (set table j e) ≡ entries 0 (suc j)
  entries-turn table j e l q h = rw (take-suc-set table j, tab-snoc (λ i. entry_of (f i)) 0 j, zero-add, h, q)

  -- each of the n from i on is in range
  abbrev pub AllFit : ℕ → ℕ → Type 0
  AllFit i n = (j : ℕ) → i ≤ j → j < i + n → Fits (f j)

  unlike-none : (a : Subscription) → Fits a → (n i : ℕ) → AllFit i n → unlike a (tabulate f i n) ≡ eqb (count (entry_of a) (entries i n)) 0
  unfolding count tabulate
  unlike-none a fa zero i h = refl
  unlike-none a fa (suc n) i h =
      ap₂ (λ x y. not x && y) (alike-keys a (f i) fa (h i (omega arith) (omega arith))) (unlike-none a fa n (suc i) (λ j l b. h j (omega arith) (omega arith)))
      ∙ go (eqb (entry_of (f i)) (entry_of a)) (count (entry_of a) (entries (suc i) n))
    where
      go : (b : Bool) (t : ℕ) → (not b && eqb t 0) ≡ eqb (bool_byte b + t) 0
      go true t = sym (ne_eqb (1 + t) 0 (λ e. omega arith))
      go false t = ap (λ (x : ℕ). eqb x 0) (sym (zero-add t))

  pub all-distinct : (n i : ℕ) → AllFit i n → all_fit (tabulate f i n) ≡ distinct (entries i n)
  unfolding distinct tabulate
  all-distinct zero i h = refl
  all-distinct (suc n) i h =
      let r : AllFit (suc i) n = λ j l b. h j (omega arith) (omega arith) in
      let own = h i (omega arith) (omega arith) in
      rw (own, ne_eqb (entry_of (f i)) 0 (λ e. omega arith), unlike-none (f i) own n (suc i) r, all-distinct n (suc i) r)

  pub one-unfit : (n i j : ℕ) → i ≤ j → j < i + n → type_fits (f j).kind (f j).type ≡ false → all_fit (tabulate f i n) ≡ false
  unfolding tabulate
  one-unfit zero i j l b e = absurd (omega arith)
  one-unfit (suc n) i j l b e = go (λ h. one-unfit n (suc i) j h (omega arith) e) (ltb i j) refl where
    lost : (x y z : Bool) → z ≡ false → (x && (y && z)) ≡ false
    lost true true z q = q
    lost true false z q = refl
    lost false y z q = refl

    go : (suc i ≤ j → all_fit (tabulate f (suc i) n) ≡ false) → (t : Bool) → ltb i j ≡ t
        → (type_fits (f i).kind (f i).type && (unlike (f i) (tabulate f (suc i) n) && all_fit (tabulate f (suc i) n))) ≡ false
    go later true q = lost (type_fits (f i).kind (f i).type) (unlike (f i) (tabulate f (suc i) n)) _ (later (ltb-true i j q))
    go later false q =
        let s : j ≡ i = omega (arith, ltb-false i j q) in
        let t : type_fits (f i).kind (f i).type ≡ false = rw s at e in
        rw t

  -- each is in range, and the first of its kind and type
  pub first-fit : (n : ℕ) → ((l : ℕ) → l < n → Fits (f l)) → ((i : ℕ) → i < n → First (λ a. entry_of (f a)) i) → all_fit (tabulate f 0 n) ≡ true
  first-fit n fit first =
      all-distinct n 0 (λ j l b. fit j (omega arith))
      ∙ first-distinct (entries 0 n)
      (λ i h z a b e. first i (omega (arith, length-is)) a b (sym (key-is entry n a (omega (arith, length-is))) ∙ e ∙ key-is entry n i (omega (arith, length-is))))
    where
      entry : ℕ → ℕ
      entry a = entry_of (f a)

      length-is : length (entries 0 n) ≡ n
      length-is = length-tabulate entry 0 n

  -- one is there a second time
  pub twice-unfit : (n l j : ℕ) → l < j → j < n → entry_of (f l) ≡ entry_of (f j) → all_fit (tabulate f 0 n) ≡ false
  twice-unfit n l j a b e = go (all_fit (tabulate f 0 n)) refl where
    entry : ℕ → ℕ
    entry i = entry_of (f i)

    length-is : length (entries 0 n) ≡ n
    length-is = length-tabulate entry 0 n

    go : (t : Bool) → all_fit (tabulate f 0 n) ≡ t → t ≡ false
    go false q = refl
    go true q =
        let d : distinct (entries 0 n) ≡ true = sym (all-distinct n 0 fit) ∙ q in
        let k = key-is entry n j b in
        let one = distinct-once (entries 0 n) d j (omega (arith, length-is)) (λ z. omega (arith, k)) in
        let two = count-two (at (entries 0 n) j) (entries 0 n) l j a (omega (arith, length-is)) (key-is entry n l (omega arith) ∙ e ∙ sym k) refl in
        absurd (omega arith)
      where
        fit : AllFit 0 n
        fit i h k = by (type_fits (f i).kind (f i).type) refl where
          by : (t : Bool) → type_fits (f i).kind (f i).type ≡ t → t ≡ true
          by true r = refl
          by false r = sym (one-unfit n 0 i h k r) ∙ q
