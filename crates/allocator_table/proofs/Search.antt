-- The search for a free node ID.
use mathlib.Core.Path.{◌≡◌, refl, sym, ap, ◌∙◌}
use mathlib.Core.Bool.{Bool, true, false, not}
use mathlib.Core.List.{List}
use mathlib.Core.Option.{Option, none, some}
use mathlib.Mathlib.Data.Bool.Basic.{and_elim_left}
use Rattle.std.specs.Prelude.{None, Some}
use Prim.Native.Nat.{ℕ, zero, suc, ◌+◌, ◌-◌, ◌≤◌, ◌<◌}
use native.Mathlib.Omega.{arith}
use borrow.Author.Tests.{eq-eqb, ne_eqb, le-leb, lt-ltb, le-ltb, ltb-true, ltb-false}
use lib.Dec.{ltb}
use Rattle.rules.specs.Tests.{pick}
use Rattle.allocator_table.specs.declared.free.Reserved.{Reserved}
use Rattle.allocator_table.specs.Limits.{node_max}
use Rattle.allocator_table.specs.inside.Code.{optional}
use Rattle.allocator_table.specs.Table.{Entry, holds, is_marked, is_free, lowest_from, highest_below, or_else, given}

-- ── one node ID ──

module _ (r : Reserved) (t : List Entry) (n : ℕ) where
  pub free-zero : n ≡ 0 → false ≡ is_free r t n
  unfolding is_free
  free-zero z = rw (le-ltb 0 n (omega arith))

  pub free-some : is_free r t n ≡ true → 0 < n
  unfolding is_free
  free-some e = ltb-true 0 n (and_elim_left _ _ (and_elim_left _ _ e))

  module _ (p : 0 < n) (l : n ≤ node_max) where
    pub free_own : n ≡ r.own → false ≡ is_free r t n
    unfolding is_free
    free_own o = rw (lt-ltb 0 n p, le-leb n node_max l, eq-eqb n r.own o)

    module _ (o : n ≡ r.own → ⊥) where
      pub free-marked : is_marked r n ≡ true → false ≡ is_free r t n
      unfolding is_free
      free-marked k = rw (lt-ltb 0 n p, le-leb n node_max l, ne_eqb n r.own o, k)

      pub free-held : is_marked r n ≡ false → not (holds n t) ≡ is_free r t n
      unfolding is_free
      free-held k = rw (lt-ltb 0 n p, le-leb n node_max l, ne_eqb n r.own o, k)

-- ── the two walks ──

module _ (f : ℕ → Bool) (i n : ℕ) where
  pub low-hit : i < n → f i ≡ true → lowest_from f i (n - i) ≡ some i
  unfolding lowest_from
  low-hit h e = let k : n - i ≡ suc (n - suc i) = omega arith in rw (k, e)

  pub low-miss : i < n → f i ≡ false → lowest_from f i (n - i) ≡ lowest_from f (suc i) (n - suc i)
  unfolding lowest_from
  low-miss h e = let k : n - i ≡ suc (n - suc i) = omega arith in rw (k, e)

  pub low-none : n ≤ i → lowest_from f i (n - i) ≡ none
  unfolding lowest_from
  low-none h = let k : n - i ≡ 0 = omega arith in rw k

module _ (f : ℕ → Bool) (i j : ℕ) (e : i ≡ suc j) where
  pub high-hit : f j ≡ true → highest_below f i ≡ some j
  unfolding highest_below
  high-hit h = rw (e, h)

  pub high-miss : f j ≡ false → highest_below f i ≡ highest_below f j
  unfolding highest_below
  high-miss h = rw (e, h)

pub high-none : (f : ℕ → Bool) (i : ℕ) → i ≡ 0 → highest_below f i ≡ none
unfolding highest_below
high-none f i e = rw e

-- what the way up takes
pub low-takes : (f : ℕ → Bool) (n i x : ℕ) → lowest_from f i n ≡ some x → f x ≡ true
unfolding lowest_from
low-takes f zero i x e = absurd (let z : ◌≡◌ {A = ℕ} 0 1 = cc in omega arith)
low-takes f (suc n) i x e = go (low-takes f n (suc i) x) (f i) refl e where
  go : (lowest_from f (suc i) n ≡ some x → f x ≡ true) → (b : Bool) → f i ≡ b → pick b (some i) (lowest_from f (suc i) n) ≡ some x → f x ≡ true
  go later true q s = let w : i ≡ x = cc in ap f (sym w) ∙ q
  go later false q s = later s

-- and the way down
pub high-takes : (f : ℕ → Bool) (n x : ℕ) → highest_below f n ≡ some x → f x ≡ true
unfolding highest_below
high-takes f zero x e = absurd (let z : ◌≡◌ {A = ℕ} 0 1 = cc in omega arith)
high-takes f (suc n) x e = go (high-takes f n x) (f n) refl e where
  go : (highest_below f n ≡ some x → f x ≡ true) → (b : Bool) → f n ≡ b → pick b (some n) (highest_below f n) ≡ some x → f x ≡ true
  go later true q s = let w : n ≡ x = cc in ap f (sym w) ∙ q
  go later false q s = later s

-- ── both ──

pub given-takes : (f : ℕ → Bool) (p x : ℕ) → given f p ≡ some x → f x ≡ true
unfolding given
given-takes f p x e = go (lowest_from f p (suc node_max - p)) refl e where
  go : (o : Option ℕ) → lowest_from f p (suc node_max - p) ≡ o → or_else o (highest_below f p) ≡ some x → f x ≡ true
  go none q s = high-takes f p x s
  go (some y) q s = let w : y ≡ x = cc in low-takes f (suc node_max - p) p x (q ∙ ap some w)

-- what the code's option says
pub is-some : (n : ℕ) (o : Option ℕ) → Some n ≡ optional o → o ≡ some n
is-some n none e = cc
is-some n (some k) e = cc

pub is-none : (o : Option ℕ) → None ≡ optional o → o ≡ none
is-none none e = refl
is-none (some k) e = cc

module _ (f : ℕ → Bool) (p : ℕ) where
  pub given_up : (n : ℕ) → Some n ≡ optional (lowest_from f p (suc node_max - p)) → Some n ≡ optional (given f p)
  unfolding given
  given_up n e = rw (is-some n (lowest_from f p (suc node_max - p)) e)

  pub given_down : None ≡ optional (lowest_from f p (suc node_max - p)) → optional (highest_below f p) ≡ optional (given f p)
  unfolding given
  given_down e = rw (is-none (lowest_from f p (suc node_max - p)) e)

-- ── what is passed ──

pub low-passes : (f : ℕ → Bool) (n i x : ℕ) → lowest_from f i n ≡ some x → (i ≤ x) × ((k : ℕ) → i ≤ k → k < x → f k ≡ false)
unfolding lowest_from
low-passes f zero i x e = absurd (let z : ◌≡◌ {A = ℕ} 0 1 = cc in omega arith)
low-passes f (suc n) i x e = go (low-passes f n (suc i) x) (f i) refl e where
  at : (k : ℕ) → i ≤ k → k < x → f i ≡ false → ((k : ℕ) → suc i ≤ k → k < x → f k ≡ false) → (b : Bool) → ltb i k ≡ b → f k ≡ false
  at k h l q later true w = later k (ltb-true i k w) l
  at k h l q later false w = let d : i ≡ k = omega (arith, ltb-false i k w) in ap f (sym d) ∙ q

  go : (lowest_from f (suc i) n ≡ some x → (suc i ≤ x) × ((k : ℕ) → suc i ≤ k → k < x → f k ≡ false)) → (b : Bool) → f i ≡ b → pick b (some i) (lowest_from f (suc i) n) ≡ some x
      → (i ≤ x) × ((k : ℕ) → i ≤ k → k < x → f k ≡ false)
  go later true q s = let w : i ≡ x = cc in (omega arith, λ k h l. absurd (omega arith))
  go later false q s = let r = later s in (omega (arith, r.0), λ k h l. at k h l q r.1 (ltb i k) refl)

pub low-all : (f : ℕ → Bool) (n i : ℕ) → lowest_from f i n ≡ none → (k : ℕ) → i ≤ k → k < i + n → f k ≡ false
unfolding lowest_from
low-all f zero i e k h l = absurd (omega arith)
low-all f (suc n) i e k h l = go (λ s p. low-all f n (suc i) s k p (omega arith)) (f i) refl e (ltb i k) refl where
  go : (lowest_from f (suc i) n ≡ none → suc i ≤ k → f k ≡ false) → (b : Bool) → f i ≡ b → pick b (some i) (lowest_from f (suc i) n) ≡ none → (t : Bool) → ltb i k ≡ t → f k ≡ false
  go later true q s t w = absurd (let z : ◌≡◌ {A = ℕ} 0 1 = cc in omega arith)
  go later false q s true w = later s (ltb-true i k w)
  go later false q s false w = let d : i ≡ k = omega (arith, ltb-false i k w) in ap f (sym d) ∙ q

pub high-passes : (f : ℕ → Bool) (n x : ℕ) → highest_below f n ≡ some x → (x < n) × ((k : ℕ) → x < k → k < n → f k ≡ false)
unfolding highest_below
high-passes f zero x e = absurd (let z : ◌≡◌ {A = ℕ} 0 1 = cc in omega arith)
high-passes f (suc n) x e = go (high-passes f n x) (f n) refl e where
  at : (k : ℕ) → x < k → k < suc n → f n ≡ false → ((k : ℕ) → x < k → k < n → f k ≡ false) → (b : Bool) → ltb k n ≡ b → f k ≡ false
  at k h l q later true w = later k h (ltb-true k n w)
  at k h l q later false w = let d : k ≡ n = omega (arith, ltb-false k n w) in ap f d ∙ q

  go : (highest_below f n ≡ some x → (x < n) × ((k : ℕ) → x < k → k < n → f k ≡ false)) → (b : Bool) → f n ≡ b → pick b (some n) (highest_below f n) ≡ some x
      → (x < suc n) × ((k : ℕ) → x < k → k < suc n → f k ≡ false)
  go later true q s = let w : n ≡ x = cc in (omega arith, λ k h l. absurd (omega arith))
  go later false q s = let r = later s in (omega (arith, r.0), λ k h l. at k h l q r.1 (ltb k n) refl)

pub high-all : (f : ℕ → Bool) (n : ℕ) → highest_below f n ≡ none → (k : ℕ) → k < n → f k ≡ false
unfolding highest_below
high-all f zero e k l = absurd (omega arith)
high-all f (suc n) e k l = go (λ s p. high-all f n s k p) (f n) refl e (ltb k n) refl where
  go : (highest_below f n ≡ none → k < n → f k ≡ false) → (b : Bool) → f n ≡ b → pick b (some n) (highest_below f n) ≡ none → (t : Bool) → ltb k n ≡ t → f k ≡ false
  go later true q s t w = absurd (let z : ◌≡◌ {A = ℕ} 0 1 = cc in omega arith)
  go later false q s true w = later s (ltb-true k n w)
  go later false q s false w = let d : k ≡ n = omega (arith, ltb-false k n w) in ap f d ∙ q
