-- Laws of values by index.
use mathlib.Core.Path.{◌≡◌, refl, ◌∙◌}
use mathlib.Core.Bool.{Bool, true, false}
use mathlib.Core.List.{List}
use Prim.Native.Nat.{ℕ, suc, ◌+◌, ◌-◌, ◌≤◌, ◌<◌}
use native.Mathlib.Numerals.{add-one}
use native.Mathlib.Omega.{arith}
use borrow.Author.Tests.{ltb-true, ltb-false}
use lib.Dec.{ltb}
use lib.ListN.{get_or, set, replicate, length-set, length-replicate, get_or-replicate}
use lib.Seq.{get_or-set_same, get_or-set_other}
use Rattle.bits.specs.Tabulate.{tabulate, every}
use Rattle.dsdl_text.specs.Text.{same}
use Rattle.dsdl_given.specs.Given.{Definition}
use Rattle.dsdl_nesting.specs.inside.Kept.{index_of, Kept}

-- ── one value after the other ──

module _ {A : Type 0} (z : A) (f : ℕ → A) (other : A) (n : ℕ) (h : n < 9) where
  pub none : Kept z f other n 0 (replicate 9 other)
  none = record { size = length-replicate 9 other; at = λ j l. absurd (omega arith); behind = get_or-replicate 9 n other z h }

  pub one_more : (i : ℕ) (vs : List A) (v : A) → i < n → Kept z f other n i vs → v ≡ f i → Kept z f other n (i + 1) (set vs i v)
  one_more i vs v l k e = record { size = length-set vs i v ∙ k.size; at = λ j m. go j m (ltb j i) refl; behind = get_or-set_other vs i n v z (λ q. omega arith) ∙ k.behind } where
    go : (j : ℕ) → j < i + 1 → (t : Bool) → ltb j i ≡ t → get_or (set vs i v) j z ≡ f j
    go j m true t = let b = ltb-true j i t in get_or-set_other vs i j v z (λ q. omega arith) ∙ k.at j b
    go j m false t =
        let q : j ≡ i = omega (arith, ltb-false j i t) in
        rw q (get_or-set_same vs i v z (omega (arith, k.size)) ∙ e)

pub same_place : {A : Type 0} (vs : List A) (z : A) (i j : ℕ) → i ≡ j → get_or vs i z ≡ get_or vs j z
same_place vs z i j e = rw e

-- ── a test of all ──

module _ (f : ℕ → Bool) (i n : ℕ) where
  pub on : i < n → f i ≡ true → every f i (n - i) ≡ every f (i + 1) (n - (i + 1))
  unfolding every
  on h e = let q : n - i ≡ suc (n - suc i) = omega arith in rw (q, e, add-one)

  pub off : i < n → f i ≡ false → every f i (n - i) ≡ false
  unfolding every
  off h e = let q : n - i ≡ suc (n - suc i) = omega arith in rw (q, e)

  pub done : n ≤ i → every f i (n - i) ≡ true
  unfolding every
  done h = let q : n - i ≡ 0 = omega arith in rw q

-- ── the index of a name ──

pub starts : (f : ℕ → Definition) (x : List ℕ) (n : ℕ) → index_of (tabulate f 0 n) x ≡ 0 + index_of (tabulate f 0 (n - 0)) x
starts f x n = let q : n - 0 ≡ n = omega arith in rw q (omega arith)

module _ (f : ℕ → Definition) (x : List ℕ) (i n : ℕ) where
  pub here : i < n → same x (f i).name ≡ true → index_of (tabulate f i (n - i)) x ≡ 0
  unfolding tabulate index_of
  here h e = let q : n - i ≡ suc (n - suc i) = omega arith in rw (q, e)

  pub later : i < n → same x (f i).name ≡ false → index_of (tabulate f i (n - i)) x ≡ 1 + index_of (tabulate f (i + 1) (n - (i + 1))) x
  unfolding tabulate index_of
  later h e = let q : n - i ≡ suc (n - suc i) = omega arith in rw (q, e, add-one) (omega arith)

  pub nowhere : n ≤ i → index_of (tabulate f i (n - i)) x ≡ 0
  unfolding tabulate index_of
  nowhere h = let q : n - i ≡ 0 = omega arith in rw q
