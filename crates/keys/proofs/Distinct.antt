-- A table has distinct keys exactly if each key in use is there once, and exactly if each is the first of its kind.
use mathlib.Core.Path.{◌≡◌, refl, sym, ap, ap₂, ◌∙◌}
use mathlib.Core.Bool.{Bool, true, false, ◌&&◌, ◌||◌}
use mathlib.Core.List.{List, [], ◌∷◌}
use mathlib.Mathlib.Data.Bool.Basic.{and_elim_left, and_elim_right}
use Prim.Native.Nat.{ℕ, zero, suc, ◌+◌, ◌<◌}
use native.Mathlib.Nat.{zero-add}
use native.Mathlib.Omega.{arith}
use borrow.Author.Tests.{eq-eqb, ne_eqb, eqb-true, eqb-false}
use lib.Dec.{eqb}
use lib.ListN.{length, get_or}
use mir.Val.{bool_byte}
use Rattle.bits.specs.Tabulate.{tabulate, every}
use Rattle.bits.proofs.Every.{every_true, every-at}
use Rattle.bits.proofs.Tabulate.{length-tabulate, tab-at}
use Rattle.keys.specs.inside.Keys.{count, distinct}
use Rattle.keys.proofs.Counts.{count_none, count-some, count-two}

-- the key of a place
abbrev pub at : List ℕ → ℕ → ℕ
at xs i = get_or xs i 0

-- no earlier place has the key of place i
abbrev pub First : (ℕ → ℕ) → ℕ → Type 0
First key i = (a : ℕ) → a < i → key a ≡ key i → ⊥

-- so for each place in use before place n
abbrev pub FirstTo : (ℕ → ℕ) → ℕ → Type 0
FirstTo key n = (i : ℕ) → i < n → (key i ≡ 0 → ⊥) → First key i

pub first-distinct : (xs : List ℕ) → FirstTo (at xs) (length xs) → distinct xs ≡ true
unfolding distinct
first-distinct [] h = refl
first-distinct (k ∷ xs) h = ap₂ (λ a b. a && b) (go (eqb k 0) refl) (first-distinct xs (λ i l z a b e. h (suc i) (omega arith) z (suc a) (omega arith) e)) where
  go : (b : Bool) → eqb k 0 ≡ b → (b || eqb (count k xs) 0) ≡ true
  go true e = refl
  go false e =
      eq-eqb (count k xs) 0
      (count_none k xs (λ l b q. h (suc l) (omega arith) (λ z. eqb-false k 0 e (sym q ∙ z)) 0 (omega arith) (sym q)))

pub distinct-once : (xs : List ℕ) → distinct xs ≡ true → (i : ℕ) → i < length xs → (at xs i ≡ 0 → ⊥) → count (at xs i) xs ≡ 1
unfolding distinct count
distinct-once [] d i h z = absurd (omega arith)
distinct-once (k ∷ xs) d zero h z =
    let n : eqb (count k xs) 0 ≡ true = rw (ne_eqb k 0 z) at (and_elim_left (eqb k 0 || eqb (count k xs) 0) (distinct xs) d) in
    omega (arith, eqb-true (count k xs) 0 n, ap bool_byte (eq-eqb k k refl))
distinct-once (k ∷ xs) d (suc i) h z = go (distinct-once xs (and_elim_right (eqb k 0 || eqb (count k xs) 0) (distinct xs) d) i (omega arith) z) (eqb k (at xs i)) refl where
  go : count (at xs i) xs ≡ 1 → (b : Bool) → eqb k (at xs i) ≡ b → bool_byte b + count (at xs i) xs ≡ 1
  go r true e =
      let q : k ≡ at xs i = eqb-true k (at xs i) e in
      let n : eqb (count k xs) 0 ≡ true = rw (ne_eqb k 0 (λ y. z (sym q ∙ y))) at (and_elim_left (eqb k 0 || eqb (count k xs) 0) (distinct xs) d) in
      absurd (omega (arith, eqb-true (count k xs) 0 n, count-some k xs i (omega arith) (sym q)))
  go r false e = omega arith

pub once-first : (xs : List ℕ) (i : ℕ) → i < length xs → count (at xs i) xs ≡ 1 → First (at xs) i
once-first xs i h e a l q = omega (arith, count-two (at xs i) xs a i l h q refl)

pub once-distinct : (xs : List ℕ) → ((i : ℕ) → i < length xs → (at xs i ≡ 0 → ⊥) → count (at xs i) xs ≡ 1) → distinct xs ≡ true
once-distinct xs h = first-distinct xs (λ i l z. once-first xs i l (h i l z))

-- ── the keys of n places ──

module _ (key : ℕ → ℕ) (n : ℕ) where
  abbrev table : List ℕ
  table = tabulate key 0 n

  pub key-is : (i : ℕ) → i < n → at table i ≡ key i
  key-is i h = tab-at key 0 0 n i h ∙ ap key (zero-add i)

  -- place i is empty, or alone with its key
  abbrev alone : ℕ → Bool
  alone i = eqb (key i) 0 || eqb (count (key i) table) 1

  pub every-alone : every alone 0 n ≡ distinct table
  every-alone = go (every alone 0 n) refl (distinct table) refl where
    length-is : length table ≡ n
    length-is = length-tabulate key 0 n

    once : every alone 0 n ≡ true → (i : ℕ) → i < length table → (at table i ≡ 0 → ⊥) → count (at table i) table ≡ 1
    once e i h z =
        let l : i < n = omega (arith, length-is) in
        let q = key-is i l in
        let t = rw (ne_eqb (key i) 0 (λ y. z (q ∙ y))) at (every-at alone n 0 e i (omega arith) (omega arith)) in
        ap (λ (k : ℕ). count k table) q ∙ eqb-true (count (key i) table) 1 t

    each : distinct table ≡ true → (i : ℕ) → i < n → alone i ≡ true
    each d i l = by (eqb (key i) 0) refl where
      by : (b : Bool) → eqb (key i) 0 ≡ b → (b || eqb (count (key i) table) 1) ≡ true
      by true e = refl
      by false e =
          let q = key-is i l in
          eq-eqb (count (key i) table) 1
          (ap (λ (k : ℕ). count k table) (sym q) ∙ distinct-once table d i (omega (arith, length-is)) (λ y. eqb-false (key i) 0 e (sym q ∙ y)))

    go : (a : Bool) → every alone 0 n ≡ a → (b : Bool) → distinct table ≡ b → a ≡ b
    go true e b d = sym (sym d ∙ once-distinct table (once e))
    go false e false d = refl
    go false e true d = sym e ∙ every_true alone n 0 (λ l a b. each d l (omega arith))
