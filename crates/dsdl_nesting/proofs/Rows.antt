-- Laws of the rows of nested types.
use mathlib.Core.Path.{◌≡◌, refl, sym, ap, ◌∙◌}
use mathlib.Core.Bool.{Bool, true, false, not, cond, or-false, or-true, ◌&&◌, ◌||◌}
use mathlib.Core.List.{List, [], ◌∷◌}
use Prim.Native.Nat.{ℕ, suc, ◌+◌, ◌*◌, ◌≤◌, ◌<◌}
use native.Mathlib.Omega.{arith}
use borrow.Author.Tests.{eqb-true, eqb-false, eq-eqb, ltb-true, ltb-false}
use lib.Dec.{eqb, ltb}
use lib.ListN.{length, get_or, set, replicate, length-set, length-replicate, get_or-replicate, get_or-eq_default}
use lib.Seq.{get_or-set_same, get_or-set_other}
use Rattle.bits.proofs.Every.{every_true, every-false, every-join}
use Rattle.bits.proofs.Tabulate.{length-tabulate}
use Rattle.bits.specs.Tabulate.{every}
use Rattle.dsdl_text.specs.Text.{same}
use Rattle.dsdl_given.specs.Given.{Definition, nested_of}
use Rattle.dsdl_given.specs.inside.Places.{definition_at, given}
use Rattle.dsdl_nesting.specs.Nesting.{every_name}
use Rattle.dsdl_nesting.specs.inside.Kept.{index_of}
use Rattle.dsdl_nesting.specs.inside.Sets.{place_in, marked_by, has_index, Nested}

index-le : (ds : List Definition) (x : List ℕ) → index_of ds x ≤ length ds
unfolding index_of
index-le [] x = omega arith
index-le (d ∷ ds) x = go (same x d.name) (index-le ds x) where
  go : (b : Bool) → index_of ds x ≤ length ds → cond b 0 (suc (index_of ds x)) ≤ suc (length ds)
  go true h = omega arith
  go false h = omega arith

-- ── marks set in a row ──

module _ (ds : List Definition) (few : length ds < 9) (i : ℕ) where
  length_marked : (s : List Bool) (xs : List (List ℕ)) → length (marked_by (place_in i ds) s xs) ≡ length s
  unfolding marked_by
  length_marked s [] = refl
  length_marked s (x ∷ xs) = length_marked (set s (place_in i ds x) true) xs ∙ length-set s (place_in i ds x) true

  marked-here : (s : List Bool) (xs : List (List ℕ)) (j : ℕ) → i * 9 + 9 ≤ length s
      → get_or (marked_by (place_in i ds) s xs) (i * 9 + j) false ≡ get_or s (i * 9 + j) false || has_index ds j xs
  unfolding marked_by has_index
  marked-here s [] j h = sym (or-false (get_or s (i * 9 + j) false))
  marked-here s (x ∷ xs) j h =
      marked-here (set s (place_in i ds x) true) xs j (omega (arith, length-set s (place_in i ds x) true)) ∙ go (eqb (index_of ds x) j) refl where
        go : (b : Bool) → eqb (index_of ds x) j ≡ b
            → get_or (set s (place_in i ds x) true) (i * 9 + j) false || has_index ds j xs ≡ get_or s (i * 9 + j) false || (b || has_index ds j xs)
        go true e =
            let p : i * 9 + j ≡ place_in i ds x = omega (arith, eqb-true (index_of ds x) j e) in
            ap (λ (k : ℕ). get_or (set s (place_in i ds x) true) k false || has_index ds j xs) p
            ∙ (ap (λ (b : Bool). b || has_index ds j xs) (get_or-set_same s (place_in i ds x) true false (omega (arith, index-le ds x)))
            ∙ sym (or-true (get_or s (i * 9 + j) false)))
        go false e =
            ap (λ (b : Bool). b || has_index ds j xs) (get_or-set_other s (place_in i ds x) (i * 9 + j) true false (λ q. eqb-false (index_of ds x) j e (omega arith)))

  marked-there : (s : List Bool) (xs : List (List ℕ)) (k : ℕ) → (i * 9 ≤ k → i * 9 + 9 ≤ k) → get_or (marked_by (place_in i ds) s xs) k false ≡ get_or s k false
  unfolding marked_by
  marked-there s [] k h = refl
  marked-there s (x ∷ xs) k h =
      marked-there (set s (place_in i ds x) true) xs k h
      ∙ get_or-set_other s (place_in i ds x) k true false (λ q. let l = h (omega arith) in omega (arith, index-le ds x))

-- ── rows one after the other ──

module _ (source bounds : List ℕ) (n : ℕ) (h : n < 9) where
  pub no_rows : Nested source bounds n 0 (replicate 72 false)
  no_rows = record { size = length-replicate 72 false; row = λ k j l m. absurd (omega arith); rest = λ k l. go k (ltb k 72) refl } where
    go : (k : ℕ) (b : Bool) → ltb k 72 ≡ b → get_or (replicate 72 false) k false ≡ false
    go k true e = get_or-replicate 72 k false false (ltb-true k 72 e)
    go k false e = get_or-eq_default (replicate 72 false) false {n = k} (omega (arith, ltb-false k 72 e, length-replicate 72 false))

  pub one-row : (i : ℕ) (s r : List Bool) → i < n → Nested source bounds n i s
      → r ≡ marked_by (place_in i (given source bounds n)) s (nested_of (definition_at source bounds i)) → Nested source bounds n (i + 1) r
  one-row i s r l t e = rw e (record {
    size = length_marked ds few i s xs ∙ t.size;
    row = λ k j m q. go k j m q (ltb k i) refl;
    rest = λ k m. marked-there ds few i s xs k (λ q. omega arith) ∙ t.rest k (omega arith);
  }) where
    ds : List Definition
    ds = given source bounds n

    xs : List (List ℕ)
    xs = nested_of (definition_at source bounds i)

    few : length ds < 9
    few = omega (arith, length-tabulate (definition_at source bounds) 0 n)

    go : (k j : ℕ) → k < i + 1 → j < 9 → (b : Bool) → ltb k i ≡ b
        → get_or (marked_by (place_in i ds) s xs) (k * 9 + j) false ≡ has_index ds j (nested_of (definition_at source bounds k))
    go k j m q true b = let p = ltb-true k i b in marked-there ds few i s xs (k * 9 + j) (λ w. absurd (omega arith)) ∙ t.row k j p q
    go k j m q false b =
        let p : k ≡ i = omega (arith, ltb-false k i b) in
        rw p (marked-here ds few i s xs j (omega (arith, t.size)) ∙ ap (λ (c : Bool). c || has_index ds j xs) (t.rest (i * 9 + j) (omega arith)))

-- ── a row against marks ──

or-not : (a b g : Bool) → (not a || g) && (not b || g) ≡ not (a || b) || g
or-not true true true = refl
or-not true true false = refl
or-not true false true = refl
or-not true false false = refl
or-not false true g = refl
or-not false false g = refl

at_one : (g : ℕ → Bool) (a : ℕ) → a < 9 → every (λ (j : ℕ). not (eqb a j) || g j) 0 9 ≡ g a
at_one g a h = go (g a) refl where
  held : (j : ℕ) (c b : Bool) → g a ≡ c → eqb a j ≡ b → c ≡ true → not b || g j ≡ true
  held j c true p e q = let z = eqb-true a j e in rw (sym z) (p ∙ q)
  held j c false p e q = refl

  go : (b : Bool) → g a ≡ b → every (λ (j : ℕ). not (eqb a j) || g j) 0 9 ≡ b
  go true e = every_true (λ (j : ℕ). not (eqb a j) || g j) 9 0 (λ j l m. held j true (eqb a j) e refl refl)
  go false e = every-false (λ (j : ℕ). not (eqb a j) || g j) 9 0 a (omega arith) (omega arith) (rw (eq-eqb a a refl, e))

pub by_row : (ds : List Definition) → length ds < 9 → (g : ℕ → Bool) (xs : List (List ℕ))
    → every (λ (j : ℕ). not (has_index ds j xs) || g j) 0 9 ≡ every_name (λ (x : List ℕ). g (index_of ds x)) xs
unfolding has_index every_name
by_row ds few g [] = every_true (λ (j : ℕ). true) 9 0 (λ j l m. refl)
by_row ds few g (x ∷ xs) =
    sym (every-join (λ (j : ℕ). not (eqb (index_of ds x) j) || g j) (λ (j : ℕ). not (has_index ds j xs) || g j) (λ (j : ℕ). not (eqb (index_of ds x) j || has_index ds j xs) || g j) 9 0
    (λ j l m. or-not (eqb (index_of ds x) j) (has_index ds j xs) (g j)))
    ∙ rw (at_one g (index_of ds x) (omega (arith, index-le ds x)), by_row ds few g xs)
